use Rattle.std.proofs.Common.{◌≡◌, ◌+◌, ◌≤◌, ◌++◌, OnOk, length, subst, arith}
use Rattle.nd_marks.proofs.Walks.{taken_range}
use Rattle.nd_marks.proofs.kept.append_range.Goals as goal

pub returns : goal.returns
returns c = let xs = c.args.block.now in let a = c.args.from in let n = c.args.width in
    let le : a + n ≤ length xs = omega (arith, c.if-end-block.false, c.from.ensures) in
    subst (λ ys. OnOk c.append_row.result (c.append_row.new.bytes.items ≡ c.args.bytes.now.items ++ ys)) (taken_range xs a n le) c.append_row.ensures
