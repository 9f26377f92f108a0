use Rattle.std.proofs.Common.{◌≡◌, cond, slice_index, ap, ◌∙◌, arith}
use Rattle.nd_marks.specs.Marks.{in_lines}
use Rattle.nd_marks.proofs.bytes.patch_grid.Goals as goal

pub returns-clause-bytes : goal.returns-clause-bytes
returns-clause-bytes c = λ p lt. let g = c.args.grid.now in
    let all : c.loop-number.number ≡ g.lines = omega (arith, c.loop-number-test.false, c.lines-number-end.ensures, c.loop-number.auto.number-end) in
    c.loop-number.invariant.bytes p lt ∙ ap (λ n. cond (in_lines g.strip g.jump n p) (slice_index c.args.source.now p) (slice_index c.args.target.now p)) all
