use Rattle.std.proofs.Common.{◌-◌, ◌*◌, sym, ap, ◌∙◌, arith}
use Rattle.nd_marks.specs.Marks.{Strip, in_strip}
use Rattle.nd_marks.proofs.Strips.{behind_reach}
use Rattle.nd_marks.proofs.strip.Strip.end.Goals as goal

pub returns-clause-past : goal.returns-clause-past
returns-clause-past c = let r = c.self.inside in λ p le.
    ap (λ s. in_strip s p) (sym c.self.view_is) ∙ behind_reach r.first r.width r.step r.count p c.self.invariant.1.0 (omega (arith, le, c.reach.ensures.value, c.from.ensures, ap (λ (s : Strip). s.count * s.step - (s.step - s.width)) c.self.view_is))
