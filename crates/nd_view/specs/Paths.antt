-- The way to an element, axis by axis.
use Rattle.std.specs.Prelude.{◌≡◌, ℕ, ◌^◌, ◌<◌, ℤ, pos, ◌+ℤ◌, ◌*ℤ◌, List, [], ◌∷◌, ⊤}

-- from this place on each axis leads to a place below 2^64
abbrev pub IsPath : ℕ → List ℤ → List ℕ → Type 0
IsPath p strides [] = ⊤
IsPath p [] (i ∷ t) = ⊥
IsPath p (s ∷ strides) (i ∷ t) = (q : ℕ) × (pos p +ℤ (pos i *ℤ s) ≡ pos q) × (q < 2 ^ 64) × IsPath q strides t
