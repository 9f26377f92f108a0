-- A run cell by cell: how each cell is entered, the record of its run, and the session before each place.
use Rattle.std.specs.Prelude.{◌≡◌, ℕ, ◌+◌, ◌<◌, ◌≤◌, List, [], ◌∷◌, length, map, take, slice_get, slice_index_or, Some, IsTrue}
use Rattle.nd_model.specs.Cells.Session.{Session, no_session}
use Rattle.nd_model.specs.Cells.Running.{World}
use Rattle.nd_model.specs.Grammar.Reading.{reading}
use Rattle.nd_model.specs.Cells.Cell.{Ended, cell, session_after}
use Rattle.nd_model.specs.Cells.Footprint.{reads_of}
use Rattle.nd_model.specs.Book.Records.{Record, record_of}
use Rattle.nd_model.specs.Book.Scheduler.{told_of}
use Rattle.nd_model.specs.Book.Renaming.{AreDistinct}
use Rattle.nd_model.specs.Book.Book.{Cell, Book, no_cell, labels_of, told_book}

-- a cell that is run, and the session at its entry
pub record Entry : Type 0 where
  pub cell : Cell
  pub session : Session

-- how a cell ends that is entered so
abbrev pub ended : World → Entry → Ended
ended i e = cell e.cell.label (reading e.cell.source) i e.session

-- the record of the run of a cell that is entered so
abbrev pub record_at : World → Entry → Record
record_at i e = record_of e.cell.label (reading e.cell.source) i e.session

-- the cells in order, from a session
abbrev pub entries : List Cell → World → Session → List Entry
entries [] i s = []
entries (c ∷ cs) i s = let e : Entry = record { cell = c; session = s } in e ∷ entries cs i (session_after (ended i e))

-- the session after these cells
abbrev pub after_cells : List Cell → World → Session → Session
after_cells [] i s = s
after_cells (c ∷ cs) i s = after_cells cs i (session_after (ended i (record { cell = c; session = s })))

-- of a notebook that is run from nothing
abbrev pub entries_of : Book → List Entry
entries_of b = entries b.cells b.world no_session

abbrev pub records_of : Book → List Record
records_of b = map (record_at b.world) (entries_of b)

-- the session before the cell at a place, or after the last one
abbrev pub session_before : Book → ℕ → Session
session_before b at = after_cells (take at b.cells) b.world no_session

-- how the cell at a place is entered
abbrev pub entry_at : Book → ℕ → Entry
entry_at b at = record { cell = slice_index_or b.cells at no_cell; session = session_before b at }

-- ---- what is told of a cell

abbrev pub ToldByRecords : Type 0
ToldByRecords = (b : Book) (at : ℕ) → at < length b.cells → slice_get (told_book b) at ≡ Some (told_of (record_at b.world (entry_at b at)) (session_before b (at + 1)))

-- ---- the cells in front

-- The two have the same records up to a place, and the same sessions.
abbrev pub SharesFront : ℕ → Book → Book → Type 0
SharesFront at old new = (take at (records_of old) ≡ take at (records_of new)) × ((k : ℕ) → k ≤ at → session_before old k ≡ session_before new k)

-- Where the first cells are the same, with the same inputs and rule, so are their records and the sessions before and after them.
abbrev pub SameFront : Type 0
SameFront = (at : ℕ) (old new : Book) → old.world ≡ new.world → take at old.cells ≡ take at new.cells → SharesFront at old new
