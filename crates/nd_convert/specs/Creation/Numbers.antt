-- The bytes of numbers that stand one after another.
use Rattle.std.specs.Prelude.{ℕ, ℤ, List}
use Rattle.std.specs.List.{flat_map}
use Rattle.nd_model.specs.Arrays.Element.{Element, bytes_of}
use Rattle.nd_model.specs.Arrays.Tuple.{count_up}

-- the bytes of the first n numbers, each by its place
abbrev pub bytes_below : Element → (ℕ → ℤ) → ℕ → List ℕ
bytes_below e f n = flat_map (λ k. bytes_of e (f k)) (count_up 0 n)

-- the bytes of one number, n times
abbrev pub bytes_of_copies : Element → ℤ → ℕ → List ℕ
bytes_of_copies e z n = bytes_below e (λ k. z) n
