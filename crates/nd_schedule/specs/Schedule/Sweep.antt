-- A sweep over the cells behind an edit, with the change that it has made.
use Rattle.std.specs.Prelude.{◌≡◌, ◌↔◌, Contains, IfSome, MatchOption, Option, map, ℕ, ◌+◌, ◌-◌, ◌<◌, ◌≤◌, Bool, List, [], ◌∷◌, length, take, slice_index_or, insert, remove, nat_eq, ⊤, if◌then◌else◌}
use Rattle.nd_model.specs.Cells.Session.{Session}
use Rattle.nd_model.specs.Cells.Running.{Key, World}
use Rattle.nd_model.specs.Book.Records.{Record}
use Rattle.nd_model.specs.Book.Renaming.{AreDistinct}
use Rattle.nd_model.specs.Book.Book.{Book, Cell, no_cell, labels_of}
use Rattle.nd_model.specs.Book.Entries.{entry_at, entries_of, record_at, records_of, session_before}
use Rattle.nd_model.specs.Book.Stale.{AtLeast, IsStale, counted}
use Rattle.nd_model.specs.Book.Sessions.{IsOnce}
use Rattle.nd_change.specs.Snapshots.{IsAlike}
use Rattle.nd_change.specs.Change.{Change, IsOver}
use Rattle.nd_change.specs.Steps.{IsWordOf}
use Rattle.nd_schedule.specs.Schedule.Ran.{AreBetween}

-- ---- words

-- beside each record a word of it
abbrev pub AreWords : {W : Type 0} → (W → Key → Bool) → List W → List Record → Type 0
AreWords {W} covers ws rs = (k : ℕ) (w : W) (r : Record) → k < length rs → IsWordOf covers (slice_index_or ws k w) (slice_index_or rs k r)

-- ---- the sweep

-- the records of the notebook before the edit
pub record IsRun (old : Book) (rs : List Record) : Type 0 where
  pub records : rs ≡ records_of old
  pub distinct : AreDistinct (labels_of old.cells)

-- From the one place up to another the cells before are those from a place on now.
pub record IsBeside (old new : Book) (i j to : ℕ) : Type 0 where
  pub within : to ≤ length old.cells
  pub fits : j + (to - i) ≤ length new.cells
  pub same : (n : ℕ) → i + n < to → slice_index_or old.cells (i + n) no_cell ≡ slice_index_or new.cells (j + n) no_cell
  pub distinct : AreDistinct (labels_of new.cells)

-- a place in the one and a place in the other
pub record IsPlace (old new : Book) (i j : ℕ) : Type 0 where
  pub before : i ≤ length old.cells
  pub now : j ≤ length new.cells
  pub distinct : AreDistinct (labels_of new.cells)

-- The session at hand is alike to the one so many cells in front, and the cells between are as they were.
pub record IsAtHand (old new : Book) (i j : ℕ) (s : Session) (since : ℕ) : Type 0 where
  pub behind : since ≤ i
  pub enough : i - since ≤ j
  pub session : IsAlike s (session_before new (j - (i - since)))
  pub once : IsOnce s.names
  pub kept : (n : ℕ) → since + n < i → record_at old.world (entry_at old (since + n)) ≡ record_at new.world (entry_at new (j - (i - since) + n))

-- THE SWEEP STANDS before the cell at i of those before, and at j of those now: the session now is the one before with the change
-- over it.
pub record IsAt (old new : Book) (i j : ℕ) (d : Change) (s : Session) (since : ℕ) : Type 0 where
  pub over : IsOver d (session_before old i) old.world (session_before new j) new.world
  pub hand : IsAtHand old new i j s since

-- of the first cells, no more were run than are stale
abbrev pub CountsFront : (old new : Book) (k before after : ℕ) → Type 0
CountsFront old new k before after = (runs : ℕ) × AtLeast runs (IsStale old new) (take k (entries_of new)) × (after ≡ counted runs before)

-- what is changed of the records: places, each with the record there
abbrev pub Changes : Type 0
Changes = List (ℕ × Record)

abbrev pub change_at : ℕ → Record → ℕ × Record
change_at k r = (k, r)

-- the record at a place, where the last change of it counts
abbrev pub changed : Changes → ℕ → Record → Record
changed [] k r = r
changed (c ∷ cs) k r = changed cs k (if nat_eq k c.0 then c.1 else r)

-- the places of changes
abbrev pub places_in : Changes → List ℕ
places_in cs = map (λ c. c.0) cs

-- With the changes, the records from the place i on up to another are those of the book now from j on. The changes are of the stale
-- cells there, in order. Nothing behind is changed.
pub record AreChanged (old new : Book) (i j to : ℕ) (cs : Changes) : Type 0 where
  pub now : (n : ℕ) → i + n < to → changed cs (i + n) (record_at old.world (entry_at old (i + n))) ≡ record_at new.world (entry_at new (j + n))
  pub before : (k : ℕ) (r : Record) → k < i → changed cs k r ≡ r
  pub past : (k : ℕ) (r : Record) → to ≤ k → changed cs k r ≡ r
  pub rising : AreBetween i to (places_in cs)
  pub stale : (n : ℕ) → i + n < to → Contains (places_in cs) (i + n) ↔ IsStale old new (entry_at new (j + n))

abbrev pub fit_at : {W : Type 0} → ℕ → Record → W → ℕ × Record × W
fit_at k r w = (k, r, w)

-- changes at places below n, each with a word of its record
abbrev pub AreFit : {W : Type 0} → (W → Key → Bool) → ℕ → List (ℕ × Record × W) → Type 0
AreFit covers n [] = ⊤
AreFit covers n (c ∷ cs) = (c.0 < n) × IsWordOf covers c.2 c.1 × AreFit covers n cs

-- the records of a book, beside each a word of it
pub record IsKept {W : Type 0} (covers : W → Key → Bool) (b : Book) (rs : List Record) (ws : List W) : Type 0 where
  pub run : IsRun b rs
  pub words : AreWords covers ws rs
  pub many : length ws ≡ length rs

-- what a sweep from a place to another goes over: cells, each with the record of its run before, and what they are run by now
pub record IsFrame (old new : Book) (i j to : ℕ) (cs : List Cell) (rs : List Record) (given : World) : Type 0 where
  pub cells : old.cells ≡ cs
  pub run : IsRun old rs
  pub order : i ≤ to
  pub beside : IsBeside old new i j to
  pub world : new.world ≡ given

-- what a sweep from a place to the end goes over, of the notebook that is kept
pub record IsOpen (old new : Book) (i j : ℕ) (given : World) : Type 0 where
  pub order : i ≤ length old.cells
  pub beside : IsBeside old new i j (length old.cells)
  pub world : new.world ≡ given

-- ---- a cell that moves

-- A cell that stands at one place before comes in now at another: its record is that of its run before.
pub record IsComing (old new : Book) (from i j : ℕ) (rs : List Record) (c : Cell) (r : Record) (given : World) : Type 0 where
  pub run : IsRun old rs
  pub place : IsPlace old new i j
  pub stood : from < length old.cells
  pub was : (entry_at old from).cell ≡ c
  pub made : r ≡ record_at old.world (entry_at old from)
  pub there : j < length new.cells
  pub cell : (entry_at new j).cell ≡ c
  pub world : new.world ≡ given

-- what the sweeps around a cell that moves go over
pub record IsMoving (old new : Book) (from to : ℕ) (cs : List Cell) (rs : List Record) (given : World) : Type 0 where
  pub cells : old.cells ≡ cs
  pub run : IsRun old rs
  pub stood : from < length old.cells
  pub goes : to < length old.cells
  pub now : new.cells ≡ insert (remove old.cells from) to (slice_index_or old.cells from no_cell)
  pub before : old.world ≡ given
  pub world : new.world ≡ given

-- With two lists of changes the records of all other cells are those of the book now, each at the place to which its cell moves.
pub record AreMoved (old new : Book) (from to : ℕ) (cs ds : Changes) : Type 0 where
  pub front : (k : ℕ) → k < from → k < to → changed ds k (changed cs k (record_at old.world (entry_at old k))) ≡ record_at new.world (entry_at new k)
  pub down : (k : ℕ) → from ≤ k → k < to → changed ds (k + 1) (changed cs (k + 1) (record_at old.world (entry_at old (k + 1)))) ≡ record_at new.world (entry_at new k)
  pub up : (k : ℕ) → to ≤ k → k < from → changed ds k (changed cs k (record_at old.world (entry_at old k))) ≡ record_at new.world (entry_at new (k + 1))
  pub behind : (k : ℕ) → from < k → to < k → k < length old.cells → changed ds k (changed cs k (record_at old.world (entry_at old k))) ≡ record_at new.world (entry_at new k)
  pub stays : (r : Record) → changed ds from (changed cs from r) ≡ r
  -- the cells between the two places, and those behind
  pub between_down : from < to → AreChanged old new (from + 1) from (to + 1) cs
  pub behind_down : from < to → AreChanged old new (to + 1) (to + 1) (length old.cells) ds
  pub between_up : to < from → AreChanged old new to (to + 1) from cs
  pub behind_up : to < from → AreChanged old new (from + 1) (from + 1) (length old.cells) ds

-- WHAT THE SWEEPS around a cell that moves gather: the record of that cell, where it was run, and with their words the records that are
-- others between its two places and behind them.
pub record AreGathered {X Y W : Type 0} (covers : W → Key → Bool) (record_of : X → Record) (word_of : X → W) (change : Y → ℕ × Record) (fit : Y → ℕ × Record × W) (old new : Book) (from to many : ℕ) (one : Option X) (between behind : List Y) : Type 0 where
  pub moved : AreMoved old new from to (map change between) (map change behind)
  pub made : MatchOption one (record_at old.world (entry_at old from) ≡ record_at new.world (entry_at new to)) (λ n. record_of n ≡ record_at new.world (entry_at new to))
  pub stale : MatchOption one (¬ IsStale old new (entry_at new to)) (λ _. IsStale old new (entry_at new to))
  pub worded : IfSome one (λ n. IsWordOf covers (word_of n) (record_of n))
  pub fit_between : AreFit covers many (map fit between)
  pub fit_behind : AreFit covers many (map fit behind)
