use Rattle.std.proofs.Common.{rules, pos, FitsSigned, ap, ◌∙◌}
use Rattle.std.specs.Prelude.{int_lt}
use Rattle.std.specs.Int.{w128}
use mir.Facts.{to_z-of_z}
use Rattle.nd_reduce.proofs.folds.Truths.{true_by_bytes}
use Rattle.nd_reduce.proofs.folds.masks.has_true.Goals as goal

pub returns : goal.returns
returns c =
    let fits : FitsSigned w128 c.greatest_in.result = search rules in
    ap (int_lt (pos 0)) (to_z-of_z fits ∙ c.greatest_in.ensures) ∙ true_by_bytes c.args.bytes.now c.args.count c.requires.some
