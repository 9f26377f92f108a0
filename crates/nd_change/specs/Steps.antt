-- What a change becomes behind one cell, words that cover its keys, and sessions that it is put over.
use Rattle.std.specs.Prelude.{◌≡◌, IsTrue, Bool, Some, is_some}
use Rattle.nd_model.specs.Cells.Session.{Session}
use Rattle.nd_model.specs.Cells.Running.{Key, World}
use Rattle.nd_model.specs.Book.Records.{Record}
use Rattle.nd_model.specs.Book.Sessions.{IsOnce}
use Rattle.nd_change.specs.Change.{Change, IsOver, IsRunOver, did_by, puts}
use Rattle.nd_change.specs.Snapshots.{IsAlike}

-- ---- words

-- A word covers all keys that the run read and all at which it did something.
pub record IsWordOf {W : Type 0} (covers : W → Key → Bool) (w : W) (r : Record) : Type 0 where
  pub reads : (k : Key) → IsTrue (r.read k) → IsTrue (covers w k)
  pub does : (k : Key) → IsTrue (is_some (puts r k)) → IsTrue (covers w k)

-- a word that covers all keys of a change
abbrev pub IsWordOfChange : {W : Type 0} → (W → Key → Bool) → W → Change → Type 0
IsWordOfChange covers w d = (k : Key) → IsTrue (is_some (d k)) → IsTrue (covers w k)

-- ---- what a change becomes

-- behind a run that is in both
abbrev pub Keeps : Change → Change → Record → Type 0
Keeps d e r = (s t : Session) (i j : World) → IsOver d s i t j → IsRunOver r s i → IsRunOver r t j → IsOver e (did_by (Some r) s) i (did_by (Some r) t) j

-- behind a run of a cell before and one now, which leaves the session given
abbrev pub Follows : Change → Change → (r q : Record) → Session → World → Type 0
Follows d e r q after j = (s t : Session) (i : World) → IsOver d s i t j → IsRunOver r s i → IsRunOver q t j → after ≡ did_by (Some q) t → IsOver e (did_by (Some r) s) i after j

-- behind a run of a cell that is in the notebook before alone; the session is that in its place now
abbrev pub Leaves : Change → Change → Record → Session → Type 0
Leaves d e r t = (s : Session) (i j : World) → IsOver d s i t j → IsRunOver r s i → IsOver e (did_by (Some r) s) i t j

-- behind a run of a cell that is in the notebook now alone, which leaves the session given
abbrev pub Comes : Change → Change → Record → Session → Type 0
Comes d e q after = (s t : Session) (i j : World) → IsOver d s i t j → IsRunOver q t j → after ≡ did_by (Some q) t → IsOver e s i after j

-- ---- sessions

-- PUT OVER A SESSION the change gives one that is alike to each over which it is.
abbrev pub IsPutOver : Change → Session → Session → Type 0
IsPutOver d s u = (t : Session) (i j : World) → IsOver d s i t j → IsOnce t.names → IsAlike u t
