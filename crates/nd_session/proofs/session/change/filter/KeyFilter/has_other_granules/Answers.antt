use Rattle.std.proofs.Common.{bit_and, eqb-true, sym, subst}
use Rattle.std.specs.Prelude.{IsTrue}
use Rattle.nd_marks.specs.Marks.{in_word}
use Rattle.nd_session.specs.Session.Filter.{FilterData}
use Rattle.nd_session.proofs.session.Covering.{no_bit}
use Rattle.nd_session.proofs.session.change.filter.KeyFilter.has_other_granules.Goals as goal

pub returns-then-self-other-eq0 : goal.returns-then-self-other-eq0
returns-then-self-other-eq0 c = λ _ i j one _ three _. no_bit c.self.inside.part c.other.inside.part i c.if-self-other-eq0.true
    (subst (λ (f : FilterData). IsTrue (in_word f.part i)) (sym c.self.view_is) one) (subst (λ (f : FilterData). IsTrue (in_word f.part i)) (sym c.other.view_is) three)

pub returns-else-self-other-eq0 : goal.returns-else-self-other-eq0
returns-else-self-other-eq0 c = λ h i j _ two _ four. no_bit c.self.inside.granules c.other.inside.granules j (eqb-true (bit_and c.self.inside.granules c.other.inside.granules) 0 h)
    (subst (λ (f : FilterData). IsTrue (in_word f.granules j)) (sym c.self.view_is) two) (subst (λ (f : FilterData). IsTrue (in_word f.granules j)) (sym c.other.view_is) four)
