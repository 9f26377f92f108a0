-- Evaluators, one call after another.
use Rattle.std.proofs.Common.{◌≡◌, ◌∙◌}

-- what stays at one call and at the next one stays at both
pub stays_on : {A B : Type 0} {n m k : A} {i j l : B} → (m ≡ n) × (j ≡ i) → (k ≡ m) × (l ≡ j) → (k ≡ n) × (l ≡ i)
stays_on x y = (y.0 ∙ x.0, y.1 ∙ x.1)
