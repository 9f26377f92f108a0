-- The places of rows, which begin at the ends of ways.
use Rattle.std.specs.Prelude.{◌≡◌, ℕ, ◌+◌, ◌*◌, ◌/◌, ◌<◌, ℤ, pos, ◌+ℤ◌, ◌*ℤ◌, List, length, map, slice_index_or}
use Rattle.std.specs.List.{flat_map}
use Rattle.nd_model.specs.Indexing.Advanced as model
use Rattle.nd_model.specs.Arrays.Strides.{way_to}
use Rattle.nd_places.specs.Near.{IsNear, place_on}
use Rattle.nd_index.specs.Offsets.Ways.{HasSmallStep}
use Rattle.nd_index.specs.declared.offsets.axes.Axes.{Axes}
use Rattle.nd_index.specs.declared.offsets.row.KeptWays.{KeptWays}
use Rattle.nd_index.specs.declared.offsets.row.Row.{Row}

-- how far the element of a number leads
abbrev pub way_on : Axes → ℕ → ℤ
way_on axes k = way_to (model.unravelled axes.lengths.now k) axes.strides.now

-- each element is a small step behind the one before, always the same
abbrev pub HasStep : Axes → Type 0
HasStep axes = HasSmallStep axes.lengths.now axes.strides.now

-- element r of each block of so many elements is r steps behind the first of the block
abbrev pub HasBlocks : Axes → ℕ → ℤ → Type 0
HasBlocks axes count step = (q r : ℕ) → r < count → way_on axes (q * count + r) ≡ way_on axes (q * count) +ℤ (pos r *ℤ step)

-- a block of so many elements begins with this one, which is so far from the first of all
abbrev pub IsFront : Axes → ℕ → ℕ → ℤ → Type 0
IsFront axes count first way = (first / count * count ≡ first) × (way ≡ way_on axes first)

-- rows of one element, and the first of them is near the block
abbrev pub IsOnLine : Row → Axes → Type 0
IsOnLine row axes = HasStep axes × (length row.ways.now ≡ 1) × IsNear (row.start +ℤ slice_index_or row.ways.now 0 (pos 0))

-- the places of a row that begins so much further
abbrev pub row_places : Row → ℤ → List ℕ
row_places row way = map (λ z. place_on ((row.start +ℤ way) +ℤ z)) row.ways.now

-- those of the rows of these numbers
abbrev pub chosen_places : Row → Axes → List ℕ → List ℕ
chosen_places row axes ks = flat_map (λ k. row_places row (way_on axes k)) ks

-- those of the elements of these numbers, for all ways of the kept axes before the array's and behind them
abbrev pub places_beside : KeptWays → Axes → List ℕ → List ℕ
places_beside kept axes ks = flat_map (λ b. flat_map (λ k. map (λ z. place_on (((pos kept.offset +ℤ b) +ℤ way_on axes k) +ℤ z)) kept.behind.now) ks) kept.before.now
