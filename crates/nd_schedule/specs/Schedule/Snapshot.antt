-- Snapshots: sessions that are kept of a run, with the changes that are still to be put over them.
use Rattle.std.specs.Prelude.{ℕ, ◌≤◌, List, [], ◌∷◌, length, map}
use Rattle.nd_model.specs.Cells.Session.{Names, Session}
use Rattle.nd_model.specs.Cells.Running.{World}
use Rattle.nd_model.specs.Book.Sessions.{IsOnce}
use Rattle.nd_model.specs.Book.Renaming.{AreDistinct}
use Rattle.nd_model.specs.Book.Book.{Book, labels_of}
use Rattle.nd_model.specs.Book.Entries.{SharesFront, session_before}
use Rattle.nd_change.specs.Change.{Change, IsOver}
use Rattle.nd_change.specs.Snapshots.{IsAlike}
use Rattle.nd_schedule.specs.declared.schedule.noting.Memo.{Memo}
use Rattle.nd_schedule.specs.declared.schedule.noting.Memo.TheVariants as memo

-- THE CHANGES LEAD from the one session to the other: put over it in order, they give one that is alike.
abbrev pub Leads : List Change → Session → Session → Type 0
Leads [] s t = IsAlike s t
Leads (d ∷ ds) s t = (m : Session) × (i : World) × (j : World) × IsOver d s i m j × IsOnce m.names × Leads ds m t

-- A SNAPSHOT of a place: its pending changes lead from it to the session before that place.
pub record IsSnapshot (b : Book) (place : ℕ) (s : Session) (ds : List Change) : Type 0 where
  pub within : place ≤ length b.cells
  pub once : IsOnce s.names
  pub leads : Leads ds s (session_before b place)

-- a session that is alike to the one before a place
pub record StandsBefore (b : Book) (place : ℕ) (s : Session) : Type 0 where
  pub alike : IsAlike s (session_before b place)
  pub once : IsOnce s.names

-- WHAT A SWEEP NOTES where a snapshot is kept: the place now, and the change there.
pub record IsChangeAt (old new : Book) (place now : ℕ) (d : Change) : Type 0 where
  pub within : now ≤ length new.cells
  pub over : IsOver d (session_before old place) old.world (session_before new now) new.world

-- What a sweep keeps there is the change, or a snapshot of the notebook now.
abbrev pub IsNoted : {D V : Type 0} → (D → Change) → (V → Session) → (old new : Book) → (place now : ℕ) → Memo D V → Type 0
IsNoted change_of kept_session old new place now (memo.Change d) = IsChangeAt old new place now (change_of d)
IsNoted change_of kept_session old new place now (memo.Session v) = IsSnapshot new now (kept_session v) []

-- an edit behind the first cells
pub record IsBehind (old new : Book) (front : ℕ) : Type 0 where
  pub same : SharesFront front old new
  pub within : front ≤ length new.cells
  pub before : AreDistinct (labels_of old.cells)
  pub distinct : AreDistinct (labels_of new.cells)

-- the names in order
abbrev pub names_in : Names → List (List ℕ)
names_in names = map (λ e. e.0) names
