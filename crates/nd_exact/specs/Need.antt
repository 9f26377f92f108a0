-- Stale cells from their other side: none of them has a record that still holds, and each right pass runs all of them.
use Rattle.std.specs.Prelude.{◌≡◌, ℕ, ◌<◌, ◌≤◌, Bool, List, length, map, Some, IfSome}
use Rattle.nd_model.specs.Cells.Session.{no_session}
use Rattle.nd_model.specs.Cells.Footprint.{HasNone}
use Rattle.nd_model.specs.Book.Records.{Record, StillHolds}
use Rattle.nd_model.specs.Book.Scheduler.{Passes}
use Rattle.nd_model.specs.Book.Renaming.{AreDistinct}
use Rattle.nd_model.specs.Book.Book.{Cell, Book, labels_of}
use Rattle.nd_model.specs.Book.Entries.{Entry, record_at, entries_of, entry_at}
use Rattle.nd_model.specs.Book.Stale.{IsStale, AtMostStale, kept_of, slot_of, runs_in, MarksAll}

-- EACH CELL HAS ITS RECORD of the run before, whichever place it stands at now.
abbrev pub RecordIsKept : Type 0
RecordIsKept = (old : Book) (at : ℕ) → AreDistinct (labels_of old.cells) → at < length old.cells
    → kept_of old (entry_at old at).cell ≡ Some (record_at old.world (entry_at old at))

-- AND NONE HAS ANOTHER: it is that of the cell with the same label, whose text is the same.
abbrev pub KeptIsItsRecord : Type 0
KeptIsItsRecord = (old : Book) (c : Cell) (r : Record) → kept_of old c ≡ Some r
    → (at : ℕ) × (at < length old.cells) × (r ≡ record_at old.world (entry_at old at)) × (c ≡ (entry_at old at).cell)

-- no record of the run before still holds where the cell is entered so
abbrev pub NeedsRun : Book → Book → Entry → Type 0
NeedsRun old new now = IfSome (kept_of old now.cell) (λ r. ¬ StillHolds r now.session new.world)

-- STALE CELLS NEED TO RUN.
abbrev pub StaleNeedsRun : Type 0
StaleNeedsRun = (old new : Book) (now : Entry) → IsStale old new now → NeedsRun old new now

-- AND WHAT NEEDS TO RUN IS STALE, where no base of its label is in the session.
abbrev pub NeedsRunIsStale : Type 0
NeedsRunIsStale = (old new : Book) (now : Entry) → AreDistinct (labels_of old.cells) → HasNone now.cell.label now.session
    → NeedsRun old new now → IsStale old new now

-- A CELL IS NOT STALE whose record of the run before still holds.
abbrev pub HoldsIsNotStale : Type 0
HoldsIsNotStale = (old new : Book) (now : Entry) (r : Record) → kept_of old now.cell ≡ Some r → StillHolds r now.session new.world
    → ¬ IsStale old new now

-- A CELL THAT IS NOT STALE HAS A RECORD that still holds, where no base of its label is in the session.
abbrev pub NotStaleHolds : Type 0
NotStaleHolds = (old new : Book) (now : Entry) → AreDistinct (labels_of old.cells) → HasNone now.cell.label now.session
    → ¬ IsStale old new now → (r : Record) × (kept_of old now.cell ≡ Some r) × StillHolds r now.session new.world

-- EACH STALE CELL RUNS in a pass, whichever others do.
abbrev pub StaleRuns : Type 0
StaleRuns = (old new : Book) (fs : List Bool) (rs : List Record) → AreDistinct (labels_of old.cells)
    → Passes new.world no_session (map (slot_of old) new.cells) fs rs → MarksAll (IsStale old new) (entries_of new) fs

-- NO PASS RUNS FEWER CELLS than are stale.
abbrev pub NoFewerRuns : Type 0
NoFewerRuns = (old new : Book) (fs : List Bool) (rs : List Record) (n : ℕ) → AreDistinct (labels_of old.cells)
    → Passes new.world no_session (map (slot_of old) new.cells) fs rs → AtMostStale old new n → n ≤ runs_in fs
