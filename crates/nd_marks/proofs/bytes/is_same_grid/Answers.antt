use Rattle.std.proofs.Common.{sym, ap, ◌∙◌, arith}
use Rattle.nd_marks.specs.Marks.{in_strip}
use Rattle.nd_marks.proofs.Grids.{line_in}
use Rattle.nd_marks.proofs.Strips.{false_true}
use Rattle.nd_marks.proofs.bytes.is_same_grid.Goals as goal

pub returns-then-not-is_same_strip : goal.returns-then-not-is_same_strip
returns-then-not-is_same_strip c = let g = c.args.grid.now in (
  λ h. false_true h,
  λ all. c.if-not-is_same_strip.ensures.1 (λ p h. all p (line_in g.strip g.jump g.lines c.loop-number.number p (omega (arith, c.loop-number-test.true, c.lines-number-end.ensures)) (sym (ap (λ s. in_strip s p) c.line.ensures) ∙ h))),
)
