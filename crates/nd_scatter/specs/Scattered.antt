-- Elements that are written to chosen places, one after another.
use Rattle.std.specs.Prelude.{ℕ, ◌+◌, ◌==◌, if◌then◌else◌, List, [], ◌∷◌, map, length, slice_index}
use Rattle.std.specs.List.{zip}
use Rattle.nd_model.specs.Cells.Session.{put}
use Rattle.nd_model.specs.Arrays.View.{ElementType, Geo, element_places}

-- The bytes of the values' element at the second place, each with its place in an element at the first one, without pad bytes.
abbrev pub byte_copies : ElementType → (values : List ℕ) → (to from : ℕ) → List (ℕ × ℕ)
byte_copies t values to from = zip (element_places t to) (map (slice_index values) (element_places t from))

-- The bytes once the element at each of the places has the bytes of a value. The first value begins at byte `from`, each further one
-- `step` bytes behind.
abbrev pub scattered : ElementType → (values : List ℕ) → (step from : ℕ) → (places old : List ℕ) → List ℕ
scattered t values step from [] old = old
scattered t values step from (p ∷ ps) old = scattered t values step (from + step) ps (put (byte_copies t values p from) old)

-- A prepared assignment to chosen elements: those of the target, in a block of `len` bytes, get the values, which begin `step` bytes
-- apart.
pub record Prepared : Type 0 where
  pub target : Geo
  pub values : List ℕ
  pub step : ℕ
  pub len : ℕ

-- THE BYTES OF A BLOCK after the write: one of another length stays as it is
abbrev pub written_by : Prepared → List ℕ → List ℕ
written_by a block = if length block == a.len then scattered a.target.element a.values a.step 0 a.target.places block else block
