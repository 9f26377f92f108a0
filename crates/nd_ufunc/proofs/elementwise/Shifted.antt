-- A function of one number beside a list, in the place of another function and number.
use Rattle.std.proofs.Common.{◌≡◌, ℕ, zero, suc, ℤ, List, [], ◌∷◌, ◌++◌, replicate, refl, ap₂}
use Rattle.nd_model.specs.Arrays.Element.{Element, bytes_of}
use Rattle.nd_ufunc.specs.Loops.Results.{result_bytes}

pub alike_beside : (e : Element) (f g : ℤ → ℤ → ℤ) (y z : ℤ) → ((x : ℤ) → f x y ≡ g x z)
    → (n : ℕ) (xs : List ℤ) → result_bytes e f xs (replicate n y) ≡ result_bytes e g xs (replicate n z)
alike_beside e f g y z same zero [] = refl
alike_beside e f g y z same zero (x ∷ xs) = refl
alike_beside e f g y z same (suc n) [] = refl
alike_beside e f g y z same (suc n) (x ∷ xs) = ap₂ (λ r rs. bytes_of e r ++ rs) (same x) (alike_beside e f g y z same n xs)
