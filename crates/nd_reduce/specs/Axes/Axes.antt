-- Axes of a shape.
use Rattle.std.specs.Prelude.{◌≡◌, ℕ, ◌+◌, ◌<◌, List, drop, slice_index, Option, Some, None}
use Rattle.nd_model.specs.Arrays.Tuple.{elements_of}

-- it is one of so many axes, if any
abbrev pub HasAxis : Option ℕ → ℕ → Type 0
HasAxis None n = Unit {0}
HasAxis (Some a) n = a < n

-- how many numbers each fold takes
abbrev pub lane_length : Option ℕ → List ℕ → ℕ
lane_length None shape = elements_of shape
lane_length (Some a) shape = slice_index shape a

-- so many numbers stand side by side behind an index of the axis
abbrev pub IsRowWidth : Option ℕ → List ℕ → ℕ → Type 0
IsRowWidth None shape n = ⊥
IsRowWidth (Some a) shape n = n ≡ elements_of (drop (a + 1) shape)
