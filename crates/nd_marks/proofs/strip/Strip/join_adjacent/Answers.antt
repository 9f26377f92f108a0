use Rattle.std.proofs.Common.{◌||◌, ◌∙◌, ap₂, arith}
use Rattle.nd_marks.specs.Marks.{in_strip}
use Rattle.nd_marks.proofs.Strips.{beside}
use Rattle.nd_marks.proofs.strip.Strip.join_adjacent.Goals as goal

pub returns : goal.returns
returns c = let r = c.self.inside in let o = c.other.inside in λ p.
    c.collapse.ensures p
    ∙ beside r.first r.width r.step r.count o.first o.width o.step o.count p (omega (arith, c.if-self-other-3.false, c.if-other-self.false)) (omega (arith, c.if-self-other.false)) (omega (arith, c.if-self-other-2.false))
    ∙ ap₂ (λ a b. in_strip a p || in_strip b p) c.self.view_is c.other.view_is
