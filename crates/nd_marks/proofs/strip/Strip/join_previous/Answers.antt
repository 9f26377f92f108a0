use Rattle.std.proofs.Common.{◌||◌, ◌∙◌, ap₂, arith}
use Rattle.nd_marks.specs.Marks.{in_strip}
use Rattle.nd_marks.proofs.Strips.{before_all}
use Rattle.nd_marks.proofs.strip.Strip.join_previous.Goals as goal

pub returns : goal.returns
returns c = let r = c.self.inside in let o = c.other.inside in λ p.
    before_all r.first r.width r.step r.count c.in_ok-count.count o.first o.width o.step o.count p c.in_ok-count.ensures.1 (omega (arith, c.if-self-other.false, c.if-self-other-2.false)) (omega (arith, c.if-other-self.false)) (omega (arith, c.if-other-ne1.false))
    ∙ ap₂ (λ a b. in_strip a p || in_strip b p) c.self.view_is c.other.view_is
