-- Which cells an edit makes stale, how many they are, and what a pass over the new list runs.
use Rattle.std.specs.Prelude.{◌≡◌, ℕ, zero, suc, ◌+◌, ◌-◌, ◌^◌, ◌≤◌, min, Bool, true, false, IsTrue, ◌&&◌, nat_eq, bytes_eq, List, [], ◌∷◌, length, map, take, find, Option, IfSome, option_map, ⊤, ◌⊎◌}
use Rattle.nd_model.specs.Cells.Session.{Session, no_session}
use Rattle.nd_model.specs.Cells.Running.{World}
use Rattle.nd_model.specs.Grammar.Reading.{reading}
use Rattle.nd_model.specs.Cells.Cell.{cell, session_after}
use Rattle.nd_model.specs.Book.Entries.{Entry, ended, record_at, entries_of, records_of}
use Rattle.nd_model.specs.Cells.Footprint.{Agree, reads_of}
use Rattle.nd_model.specs.Book.Records.{Record, StillHolds}
use Rattle.nd_model.specs.Book.Scheduler.{Slot, Passes}
use Rattle.nd_model.specs.Book.Renaming.{AreDistinct}
use Rattle.nd_model.specs.Book.Book.{Cell, Book, labels_of}

-- ---- stale cells

-- the same cell, and its text is the same
abbrev pub is_same : Cell → Cell → Bool
is_same c d = nat_eq c.label d.label && bytes_eq c.source d.source

-- how a cell was entered in the run before; none where it is new in the list, or its text is another
abbrev pub entry_before : Book → Cell → Option Entry
entry_before old c = find (λ (e : Entry). is_same c e.cell) (entries_of old)

-- STALE when the new book is run after the old one: it is new in the list, or its text is another, or something that it read in the
-- run before has another value at its entry now. A cell that was refused has read the rule.
abbrev pub IsStale : Book → Book → Entry → Type 0
IsStale old new now =
    IfSome (entry_before old now.cell) (λ was. ¬ Agree (reads_of (ended old.world was)) was.session old.world now.session new.world)

-- Of these, at least n are P: n is at most their number.
abbrev pub AtLeast : {X : Type 0} → ℕ → (X → Type 0) → List X → Type 0
AtLeast zero P xs = ⊤
AtLeast (suc n) P [] = ⊥
AtLeast (suc n) P (x ∷ xs) = (P x × AtLeast n P xs) ⊎ AtLeast (suc n) P xs

-- n is at most the number of stale cells
abbrev pub AtMostStale : Book → Book → ℕ → Type 0
AtMostStale old new n = AtLeast n (IsStale old new) (entries_of new)

-- the meter after this many more runs; at its greatest value it stays
abbrev pub counted : (runs meter : ℕ) → ℕ
counted zero meter = meter
counted (suc runs) meter = min (meter + suc runs) (2 ^ 64 - 1)

-- what a pass counts on the meter: no more runs than there are stale cells
abbrev pub CountsStale : (old new : Book) (before after : ℕ) → Type 0
CountsStale old new before after = (runs : ℕ) × AtMostStale old new runs × (after ≡ counted runs before)

-- ---- a pass over the new list

-- what is kept of a cell: the record of its run before
abbrev pub kept_of : Book → Cell → Option Record
kept_of old c = option_map (record_at old.world) (entry_before old c)

abbrev pub slot_of : Book → Cell → Slot
slot_of old c = record { label = c.label; parsed = reading c.source; kept = kept_of old c }

-- A cell with a flag was run only for want of a record that still holds.
abbrev pub RunsAtNeed : World → Session → List Slot → List Bool → Type 0
RunsAtNeed i s [] [] = ⊤
RunsAtNeed i s (c ∷ cs) (f ∷ fs) = (IsTrue f → IfSome c.kept (λ r. ¬ StillHolds r s i)) × RunsAtNeed i (session_after (cell c.label c.parsed i s)) cs fs
RunsAtNeed i s [] (f ∷ fs) = ⊥
RunsAtNeed i s (c ∷ cs) [] = ⊥

-- how many flags there are
abbrev pub runs_in : List Bool → ℕ
runs_in [] = 0
runs_in (true ∷ fs) = suc (runs_in fs)
runs_in (false ∷ fs) = runs_in fs

-- flags that stand at P alone
abbrev pub MarksOnly : {X : Type 0} → (X → Type 0) → List X → List Bool → Type 0
MarksOnly P [] [] = ⊤
MarksOnly P (x ∷ xs) (f ∷ fs) = (IsTrue f → P x) × MarksOnly P xs fs
MarksOnly P [] (f ∷ fs) = ⊥
MarksOnly P (x ∷ xs) [] = ⊥

-- AN EDIT RUNS AT MOST ITS STALE CELLS: a pass that keeps the records of the run before and runs at need alone has the records of
-- running all cells in order from nothing, runs stale cells only, and so no more than are stale.
abbrev pub FewRuns : Type 0
FewRuns = (old new : Book) (fs : List Bool) (rs : List Record) → AreDistinct (labels_of old.cells) → AreDistinct (labels_of new.cells)
    → Passes new.world no_session (map (slot_of old) new.cells) fs rs → RunsAtNeed new.world no_session (map (slot_of old) new.cells) fs
    → (rs ≡ records_of new) × MarksOnly (IsStale old new) (entries_of new) fs × AtMostStale old new (runs_in fs)

-- whatever flags each stale cell has at least as many flags
abbrev pub MarksAll : {X : Type 0} → (X → Type 0) → List X → List Bool → Type 0
MarksAll P [] fs = ⊤
MarksAll P (x ∷ xs) [] = ⊥
MarksAll P (x ∷ xs) (f ∷ fs) = (P x → IsTrue f) × MarksAll P xs fs

abbrev pub AtMostIsAtMost : Type 0
AtMostIsAtMost = (old new : Book) (n : ℕ) (fs : List Bool) → AtMostStale old new n → MarksAll (IsStale old new) (entries_of new) fs → n ≤ runs_in fs

-- ---- the cells in front

-- Where the first cells are the same, with the same inputs and rule, none of these cells is stale.
abbrev pub FrontIsNotStale : Type 0
FrontIsNotStale = (at n : ℕ) (old new : Book) → AreDistinct (labels_of old.cells) → old.world ≡ new.world → take at old.cells ≡ take at new.cells
    → AtMostStale old new n → n ≤ length new.cells - at
