use Rattle.std.proofs.Common.{sym, subst, arith}
use Rattle.std.specs.Prelude.{IsTrue}
use Rattle.nd_session.specs.Session.Filter.{FilterData, has_bit}
use Rattle.nd_session.proofs.session.Covering.{apart_all}
use Rattle.nd_session.proofs.session.change.filter.KeyFilter.has_other_wholes.Goals as goal

pub returns : goal.returns
returns c = λ _ i one other.
    apart_all 2 c.self.inside.whole c.other.inside.whole c.self.told.1 (λ q lt. c.loop-at.invariant q (omega (arith, lt, c.loop-at-test.false))) i
    (subst (λ (f : FilterData). IsTrue (has_bit f.whole i)) (sym c.self.view_is) one) (subst (λ (f : FilterData). IsTrue (has_bit f.whole i)) (sym c.other.view_is) other)
