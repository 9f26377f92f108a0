-- What is known of folds part of the way.
use Rattle.std.specs.Prelude.{◌≡◌, ℕ, ◌^◌, ◌<◌, ℤ, Bool, true, false, List, [], ◌∷◌, length}
use Rattle.std.specs.Int.{w128}
use Rattle.std.specs.Int.RustNames.{FitsSigned}
use Rattle.nd_model.specs.Making.Reductions.{best, best_place}

abbrev pub has_any : List ℤ → Bool
has_any [] = false
has_any (z ∷ zs) = true

-- the best of these numbers so far, where there are some
pub record IsBest (better : ℤ → ℤ → Bool) (some : Bool) (z : ℤ) (zs : List ℤ) : Type 0 where
  pub fits : FitsSigned w128 z
  pub has : some ≡ has_any zs
  pub is : z ≡ best better zs

-- with its place; there are so many numbers
pub record IsBestPlace (better : ℤ → ℤ → Bool) (count place : ℕ) (z : ℤ) (zs : List ℤ) : Type 0 where
  pub fits : FitsSigned w128 z
  pub many : count ≡ length zs
  pub is : z ≡ best better zs
  pub at : place ≡ best_place better zs

-- a count of 64 bits has them all
abbrev pub IsPlaced : (better : ℤ → ℤ → Bool) → (count place : ℕ) → ℤ → List ℤ → Type 0
IsPlaced better count place z zs = length zs < 2 ^ 64 → IsBestPlace better count place z zs
