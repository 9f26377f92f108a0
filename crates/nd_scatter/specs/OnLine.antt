-- Elements on a line.
use Rattle.std.specs.Prelude.{ℕ, ◌+◌, ◌<◌, ◌≤◌}
use Rattle.nd_places.specs.Near.{place_on_line}
use Rattle.nd_places.specs.declared.line.StridedLine.{StridedLine}

-- the first `count` elements of a line, of `size` bytes each, end within `len` bytes
abbrev pub AreOnLine : StridedLine → (size count len : ℕ) → Type 0
AreOnLine line size count len = (k : ℕ) → k < count → place_on_line line.start line.step k + size ≤ len
