-- The bytes of numbers that are converted and stand one after another.
use Rattle.std.specs.Prelude.{ℕ, List}
use Rattle.std.specs.List.{flat_map}
use Rattle.nd_model.specs.Arrays.Element.{Element, bytes_of, wrap}
use Rattle.nd_model.specs.Arrays.Content.{number_at}

-- the bytes of the number at a place
abbrev pub converted_at : Element → Element → List ℕ → ℕ → List ℕ
converted_at to from bytes p = bytes_of to (wrap to.kind (number_at from bytes p))

-- the bytes of the numbers at these places
abbrev pub converted_bytes : Element → Element → List ℕ → List ℕ → List ℕ
converted_bytes to from bytes places = flat_map (converted_at to from bytes) places
