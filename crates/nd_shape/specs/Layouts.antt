-- The lengths and the strides of axes that are taken from an array.
use Rattle.std.specs.Prelude.{ℕ, ℤ, pos, List, map, slice_index, slice_index_or}

abbrev pub lengths_on : List ℕ → List ℕ → List ℕ
lengths_on shape axes = map (slice_index shape) axes

abbrev pub strides_on : List ℤ → List ℕ → List ℤ
strides_on strides axes = map (λ a. slice_index_or strides a (pos 0)) axes
