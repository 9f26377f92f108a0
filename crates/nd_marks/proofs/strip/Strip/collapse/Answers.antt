use Rattle.std.proofs.Common.{◌∙◌, ap, arith}
use Rattle.nd_marks.specs.Marks.{in_row, in_strip}
use Rattle.nd_marks.proofs.Strips.{all_meet}
use Rattle.nd_marks.proofs.strip.Strip.collapse.Goals.{in-Some, in-None}
use Rattle.nd_marks.proofs.strip.Strip.collapse.Goals as goal

pub returns : goal.returns
returns c = let r = c.self.inside in λ p. ap (λ s. in_strip s p) c.result.view_is ∙ elim c.match-checked_mul.branch [
  | in-Some w ↦ ap (λ s. in_strip s p) w.result-is ∙ w.range.ensures.places p ∙ ap (λ n. in_row r.first n p) (w.in-Some.ensures.1)
      ∙ all_meet r.first r.width r.step r.count p (omega (arith, c.if-self.false)) ∙ ap (λ s. in_strip s p) c.self.view_is
  | in-None w ↦ ap (λ s. in_strip s p) w.result-is ∙ ap (λ s. in_strip s p) c.self.view_is
]
