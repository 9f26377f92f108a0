use Rattle.std.proofs.Common.{◌||◌, ◌∙◌, sym, ap, ap₂, arith}
use Rattle.std.proofs.lemmas.Bool.Decides.{nat_tests}
use Rattle.nd_marks.specs.Marks.{in_strip}
use Rattle.nd_marks.proofs.Strips.{covered}
use Rattle.nd_marks.proofs.strip.Strip.covers.Goals as goal

pub returns : goal.returns
returns c = let r = c.self.inside in let o = c.other.inside in λ h p.
    ap₂ (λ a b. in_strip a p || in_strip b p) (sym c.self.view_is) (sym c.other.view_is)
    ∙ covered r.first r.width r.step r.count o.first o.width o.step o.count p (omega (arith, c.if-self-ne1.false)) (omega (arith, c.if-other-eq0.false)) c.other.invariant.1.0 (omega (arith, c.if-other-self.false)) (grind (arith, nat_tests, h))
    ∙ ap (λ s. in_strip s p) c.self.view_is
