-- The stride of the last axis.
use Rattle.std.specs.Prelude.{ℤ, pos, List, [], ◌∷◌}

abbrev pub last_step : List ℤ → ℤ
last_step [] = pos 0
last_step (s ∷ []) = s
last_step (s ∷ z ∷ strides) = last_step (z ∷ strides)

-- the strides with another one in place of the last
abbrev pub with_last_step : List ℤ → ℤ → List ℤ
with_last_step [] z = []
with_last_step (s ∷ []) z = z ∷ []
with_last_step (s ∷ y ∷ strides) z = s ∷ with_last_step (y ∷ strides) z
