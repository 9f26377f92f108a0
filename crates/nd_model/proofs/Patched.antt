-- Bytes over which nothing is written.
use Rattle.std.proofs.Common.{◌≡◌, ℕ, suc, List, [], ◌∷◌, Option, None, unwrap_or, refl, ap, ap₂}
use Rattle.nd_model.specs.Cells.Footprint.{patched}

pub patched_none : (w : ℕ → Option ℕ) (xs : List ℕ) → ((p : ℕ) → w p ≡ None) → patched w xs ≡ xs
patched_none w [] h = refl
patched_none w (x ∷ xs) h = ap₂ (λ (y : ℕ) (ys : List ℕ). y ∷ ys) (ap (λ o. unwrap_or o x) (h 0)) (patched_none (λ p. w (suc p)) xs (λ p. h (suc p)))
