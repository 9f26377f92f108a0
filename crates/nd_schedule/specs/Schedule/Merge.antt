-- A merge: a sweep that comes to the cells of another notebook one by one, wherever they stood before.
use Rattle.std.specs.Prelude.{◌≡◌, ◌↔◌, ℕ, ◌<◌, ◌≤◌, Bool, IsTrue, List, length, None, slice_index_or, take}
use Rattle.nd_model.specs.Cells.Running.{Key, World}
use Rattle.nd_model.specs.Book.Records.{Record}
use Rattle.nd_model.specs.Book.Renaming.{AreDistinct}
use Rattle.nd_model.specs.Book.Book.{Book, Cell, labels_of, no_cell}
use Rattle.nd_model.specs.Book.Entries.{entry_at, record_at, records_of}
use Rattle.nd_model.specs.Book.Stale.{IsStale, kept_of}
use Rattle.nd_schedule.specs.Schedule.Ran.{AreStaleIn}
use Rattle.nd_schedule.specs.Schedule.Sweep.{AreWords, IsPlace, IsRun}
use Rattle.nd_schedule.specs.declared.schedule.matching.Way.{Way}
use Rattle.nd_schedule.specs.declared.schedule.matching.Way.TheVariants as way

-- ---- how a cell comes to its place

-- no record of the run before is kept of the cell
abbrev pub IsUnknown : List Cell → Cell → Type 0
IsUnknown cs c = (b : Book) → b.cells ≡ cs → AreDistinct (labels_of b.cells) → kept_of b c ≡ None

-- The same cell stands before at a place.
pub record Stood (cs : List Cell) (k : ℕ) (c : Cell) : Type 0 where
  pub within : k < length cs
  pub same : slice_index_or cs k no_cell ≡ c

-- Of a cell that comes next, where a sweep stands before the cell at i of those before.
abbrev pub IsWay : (i : ℕ) → List Cell → Cell → Way → Type 0
IsWay i cs c (way.Kept k) = (i ≤ k) × Stood cs k c
IsWay i cs c (way.Edited k) = (i ≤ k) × (k < length cs) × IsUnknown cs c
IsWay i cs c (way.Moved k) = Stood cs k c
IsWay i cs c way.New = IsUnknown cs c

-- ---- one cell of a merge

-- The cell that comes next now, where a sweep stands before the cell at i of those before.
pub record IsNext (old new : Book) (i j : ℕ) (rs : List Record) (c : Cell) (given : World) : Type 0 where
  pub run : IsRun old rs
  pub place : IsPlace old new i j
  pub there : j < length new.cells
  pub cell : (entry_at new j).cell ≡ c
  pub world : new.world ≡ given

-- the record of the cell at a place now, and whether the cell was run for it
pub record IsPlaced (old new : Book) (j : ℕ) (r : Record) (is_run : Bool) : Type 0 where
  pub made : r ≡ record_at new.world (entry_at new j)
  pub stale : IsTrue is_run ↔ IsStale old new (entry_at new j)

-- ---- all of them

-- what a merge goes over: the cells before with their records, and those now with what they are run by
pub record IsMerge (old new : Book) (cs ds : List Cell) (rs : List Record) (given : World) : Type 0 where
  pub cells : old.cells ≡ cs
  pub now : new.cells ≡ ds
  pub run : IsRun old rs
  pub distinct : AreDistinct (labels_of new.cells)
  pub world : new.world ≡ given

-- The first cells have the records that they had, and none of them is stale.
pub record IsFront (old new : Book) (count : ℕ) : Type 0 where
  pub within : count ≤ length new.cells
  pub same : (k : ℕ) → k < count → record_at old.world (entry_at old k) ≡ record_at new.world (entry_at new k)
  pub fresh : (k : ℕ) → k < count → ¬ IsStale old new (entry_at new k)

-- THE RECORDS OF THE FIRST CELLS now, beside each a word of it, and the places of those that are stale.
pub record AreMerged {W : Type 0} (covers : W → Key → Bool) (old new : Book) (j : ℕ) (rs : List Record) (ws : List W) (ran : List ℕ) : Type 0 where
  pub records : rs ≡ take j (records_of new)
  pub words : AreWords covers ws rs
  pub many : length ws ≡ length rs
  pub stale : AreStaleIn old new 0 j ran
