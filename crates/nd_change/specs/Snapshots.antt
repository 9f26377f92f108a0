-- Sessions that are alike, and snapshots: sessions that are kept, and what a change makes of them.
use Rattle.std.specs.Prelude.{◌≡◌, ◌⊎◌, ℕ, IsTrue, IsSome, List, Some, None}
use Rattle.nd_model.specs.Arrays.Value.{Base}
use Rattle.nd_model.specs.Cells.Session.{Session, lookup, is_held, held_bytes}
use Rattle.nd_model.specs.Cells.Running.{Key, Length, Byte, World}
use Rattle.nd_model.specs.Grammar.Syntax.{Parsed}
use Rattle.nd_model.specs.Cells.Cell.{cell, session_after}
use Rattle.nd_model.specs.Cells.Footprint.{Found, HasNone, found}
use Rattle.nd_model.specs.Book.Records.{Record, record_of, StillHolds}
use Rattle.nd_model.specs.Book.Sessions.{IsOnce}
use Rattle.nd_change.specs.Change.{Change, nothing, IsOver, IsThere, did_by}

-- ALIKE: the same names with the same values, and the same bytes in the same bases. The order of names may be another.
pub record IsAlike (s t : Session) : Type 0 where
  pub names : (n : List ℕ) → lookup n s.names ≡ lookup n t.names
  pub held : (b : Base) → is_held b s.names ≡ is_held b t.names
  pub bytes : (b : Base) → held_bytes s b ≡ held_bytes t b

-- WHERE A CHANGE HAS NOTHING MORE, the two sessions are alike.
abbrev pub NothingLeft : Type 0
NothingLeft = (s t : Session) (i j : World) → IsOver nothing s i t j → IsOnce s.names → IsOnce t.names → IsAlike s t

-- Over alike sessions a run has the same record, and leaves alike sessions.
abbrev pub AlikeRuns : Type 0
AlikeRuns = (label : ℕ) (p : Parsed) (s t : Session) (i : World) → IsAlike s t → IsOnce s.names → IsOnce t.names → HasNone label t
    → HasNone label s × (record_of label p i s ≡ record_of label p i t) × IsAlike (session_after (cell label p i s)) (session_after (cell label p i t))

-- A record that holds over the one holds over the other, and does the same.
abbrev pub AlikeReplays : Type 0
AlikeReplays = (r : Record) (s t : Session) (i : World) → IsAlike s t → IsOnce s.names → IsOnce t.names → StillHolds r t i → StillHolds r s i × IsAlike (did_by (Some r) s) (did_by (Some r) t)

-- A CHANGE IS OVER ALIKE SESSIONS where it is over one of them, on either side.
abbrev pub OverAlike : Type 0
OverAlike = (d : Change) (s t u v : Session) (i j : World) → IsOver d s i t j → IsAlike u s → IsAlike v t → IsOver d u i v j

-- all bytes of the base are in the change, and how many they are
pub record IsWhole (d : Change) (b : Base) : Type 0 where
  pub length : IsSome (d (Length b))
  pub bytes : (p : ℕ) → IsSome (d (Byte b p))

-- A SNAPSHOT WITH THE CHANGE PUT OVER IT: where the change has something that is there, and elsewhere what was there. Each base in it was
-- there before, or is in the change as a whole.
pub record IsPatched (d : Change) (s : Session) (i : World) (u : Session) (j : World) : Type 0 where
  pub now : (k : Key) (f : Found) → d k ≡ Some f → IsThere u k → found u j k ≡ f
  pub same : (k : Key) → d k ≡ None → IsThere u k → found u j k ≡ found s i k
  pub known : (b : Base) → IsTrue (is_held b u.names) → IsTrue (is_held b s.names) ⊎ IsWhole d b
  pub once : IsOnce u.names

-- THE SNAPSHOT OF THE RUN NOW is that of the run before with the change put over it.
abbrev pub Patches : Type 0
Patches = (d : Change) (s t u : Session) (i j : World) → IsOver d s i t j → IsOnce t.names → IsPatched d s i u j → IsAlike u t
