use Rattle.std.proofs.Common.{◌≡◌, Option, Some, None, ℤ, subst}
use Rattle.std.specs.Prelude.{MatchOption}
use Rattle.nd_index.proofs.offsets.axes.Axes.new.Goals as goal

at_some : (P : Type 0) (Q : ℤ → Type 0) (o : Option ℤ) (z : ℤ) → o ≡ Some z → MatchOption o P Q → Q z
at_some P Q o z is told = subst (λ o. MatchOption o P Q) is told

at_none : (P : Type 0) (Q : ℤ → Type 0) (o : Option ℤ) → o ≡ None → MatchOption o P Q → P
at_none P Q o is told = subst (λ o. MatchOption o P Q) is told

pub invariant_of-result-clause-even : goal.invariant_of-result-clause-even
invariant_of-result-clause-even c = λ s is. at_some _ _ _ s is c.even_step.ensures

pub invariant_of-result-clause-uneven : goal.invariant_of-result-clause-uneven
invariant_of-result-clause-uneven c = λ is. at_none _ _ _ is c.even_step.ensures
