-- The places of a set in the order of a walk over them, and the bytes that are kept of these.
use Rattle.std.specs.Prelude.{◌≡◌, ℕ, zero, suc, ◌+◌, ◌-◌, ◌*◌, ◌^◌, ◌<◌, ◌≤◌, List, [], ◌∷◌, ◌++◌, Option, Some, None, filter, drop, length, map, nat_eq, nat_le, Bool, ◌&&◌, if◌then◌else◌}
use Rattle.nd_model.specs.Arrays.Tuple.{count_up}
use Rattle.nd_marks.specs.Marks.{Grid, Places, Strip, has_bit, holds, moved, pages_of}
use Rattle.nd_marks.specs.declared.walk.Walk.TheInside as walk
use Rattle.nd_marks.specs.declared.kept.KeptBytes.TheInside as kept

-- the places of rows
abbrev pub row_places : ℕ → ℕ → ℕ → ℕ → List ℕ
row_places first width step zero = []
row_places first width step (suc n) = count_up first width ++ row_places (first + step) width step n

-- the places of a strip from the row of this number on
abbrev pub rows_left : Strip → ℕ → List ℕ
rows_left s row = row_places (s.first + row * s.step) s.width s.step (s.count - row)

-- the places of lines
abbrev pub line_places : Strip → ℕ → ℕ → List ℕ
line_places s jump zero = []
line_places s jump (suc n) = rows_left s 0 ++ line_places (moved s jump) jump n

-- the places of a grid from the line of this number on
abbrev pub lines_left : Grid → ℕ → List ℕ
lines_left g line = line_places (moved g.strip (line * g.jump)) g.jump (g.lines - line)

abbrev pub grids_places : List Grid → List ℕ
grids_places [] = []
grids_places (g ∷ gs) = lines_left g 0 ++ grids_places gs

-- the rows of grids
abbrev pub rows_in : List Grid → ℕ
rows_in [] = 0
rows_in (g ∷ gs) = g.lines * g.strip.count + rows_in gs

-- there are no bits, and at most so many rows
abbrev pub is_few : Places → ℕ → Bool
is_few m most = nat_eq (length m.pages) 0 && nat_le (m.last.lines * m.last.strip.count + rows_in m.grids) most

-- the places of bits from one on
abbrev pub bits_left : List (List ℕ) → ℕ → List ℕ
bits_left pages at = filter (has_bit pages) (count_up at (length pages * 32768 - at))

-- all places of a set
abbrev pub places_in : Places → List ℕ
places_in m = lines_left m.last 0 ++ (grids_places m.grids ++ bits_left m.pages 0)

-- the places that a walk has before it
abbrev pub left_of : walk.Inside → List ℕ
left_of w = rows_left w.rows w.row ++ (lines_left w.grid w.line ++ (grids_places (drop w.next w.grids.now) ++ bits_left (pages_of w.pages.now) w.bit))

-- the next places of a walk are a range
pub record IsNext (old : List ℕ) (from width : ℕ) (new : List ℕ) : Type 0 where
  pub split : old ≡ count_up from width ++ new
  pub some : 0 < width
  pub near : from + width ≤ 2 ^ 80

-- the byte of a place, of bytes in the order of the places
abbrev pub byte_for : List ℕ → List ℕ → ℕ → ℕ
byte_for [] bytes p = 0
byte_for (q ∷ qs) [] p = 0
byte_for (q ∷ qs) (b ∷ bs) p = if nat_eq p q then b else byte_for qs bs p

-- what contracts see of bytes that are kept
pub record KeptData : Type 0 where
  pub marks : Places
  pub bytes : List ℕ

abbrev pub kept_of : kept.Inside → KeptData
kept_of k = record { marks = k.marks; bytes = k.bytes.items }

-- the byte that is kept of a place
abbrev pub byte_of : KeptData → ℕ → ℕ
byte_of k p = byte_for (places_in k.marks) k.bytes p

-- the byte that is kept of a place, none where the place is not marked
abbrev pub kept_at : KeptData → ℕ → Option ℕ
kept_at k p = if holds k.marks p then Some (byte_of k p) else None

-- a place that is listed twice has the same byte twice
abbrev pub IsKept : kept.Inside → Type 0
IsKept k = k.bytes.items ≡ map (byte_of (kept_of k)) (places_in k.marks)
