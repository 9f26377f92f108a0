use Rattle.std.proofs.Common.{◌≡◌, ◌++◌, sym, subst}
use Rattle.std.specs.Result.{OnOk}
use Rattle.nd_index.proofs.offsets.NearWays.{on_line}
use Rattle.nd_index.proofs.advanced.masks.push_numbers.Goals as goal

pub returns-in-Some : goal.returns-in-Some
returns-in-Some c =
    subst (λ ps. OnOk c.push_on_line.result (c.push_on_line.new.places.items ≡ c.args.places.now.items ++ ps)) (sym (on_line c.args.row.now c.args.axes.now c.in-Some.line c.in-Some.ensures c.args.numbers.now)) c.push_on_line.ensures
