-- Index tuples that lie in a shape.
use Rattle.std.specs.Prelude.{ℕ, ◌<◌, List}
use Rattle.std.specs.List.{AllZip}

-- t has a number for each axis, below its length
abbrev pub IsIndex : List ℕ → List ℕ → Type 0
IsIndex shape t = AllZip (λ i n. i < n) t shape
