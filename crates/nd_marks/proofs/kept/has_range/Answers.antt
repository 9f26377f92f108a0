use Rattle.std.proofs.Common.{◌≡◌, ◌+◌, ◌-◌, ◌≤◌, length, take, drop, ap, ◌∙◌, arith}
use Rattle.std.specs.Cmp.Lexicographic.{pointwise}
use Rattle.std.proofs.Math.Dec.{eqb}
use Rattle.nd_marks.proofs.Walks.{same_bytes}
use Rattle.nd_marks.proofs.kept.has_range.Goals as goal

pub returns : goal.returns
returns c = let xs = c.args.block.now in let ys = c.args.bytes.now in let a = c.args.from in
    let le : a + length ys ≤ length xs = omega (arith, c.if-end-block.false) in
    let n : a + length ys - a ≡ length ys = omega arith in
    same_bytes xs ys a c.eq.result le (c.eq.ensures ∙ ap (λ n. pointwise eqb (take n (drop a xs)) ys) n)
