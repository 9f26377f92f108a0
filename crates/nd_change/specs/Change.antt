-- Changes: what an edit may have changed in the session behind each cell. Two sessions stand side by side: that of the run before the
-- edit, and that of the run now. A change says at which keys they may differ, and what is there now.
use Rattle.std.specs.Prelude.{◌≡◌, ◌↔◌, ◌⊎◌, ℕ, IsTrue, nat_eq, is_none, if◌then◌else◌, List, [], ◌∷◌, length, slice_index, Option, Some, None, IfSome, option_map, ⊤}
use Rattle.nd_model.specs.Arrays.Value.{Base, Value, lies_in}
use Rattle.nd_model.specs.Cells.Session.{Session, lookup, is_held}
use Rattle.nd_model.specs.Cells.Running.{Event, Binds, Unbinds, Key, Name, Input, Length, Byte, OfRule, World, is_touched}
use Rattle.nd_model.specs.Grammar.Syntax.{Parsed}
use Rattle.nd_model.specs.Cells.Footprint.{Found, Bound, Number, found, HasNone, replayed, with_effects}
use Rattle.nd_model.specs.Book.Records.{Record, record_of, StillHolds}

-- ---- changes

-- the keys that may differ, each with what is there now
abbrev pub Change : Type 0
Change = Key → Option Found

abbrev pub nothing : Change
nothing k = None

-- Names, inputs and the rule can always be asked for, a base where some value lies in it.
abbrev pub IsThere : Session → Key → Type 0
IsThere s (Name n) = ⊤
IsThere s (Input n) = ⊤
IsThere s (Length b) = IsTrue (is_held b s.names)
IsThere s (Byte b p) = IsTrue (is_held b s.names)
IsThere s OfRule = ⊤

-- THE SECOND IS THE FIRST WITH THE CHANGE PUT OVER IT: where the change has something that stands there now, and elsewhere what is in
-- both is the same. It says nothing of bases that are in one of the two alone, nor of the order of names.
pub record IsOver (d : Change) (s : Session) (i : World) (t : Session) (j : World) : Type 0 where
  pub now : (k : Key) (f : Found) → d k ≡ Some f → IsThere t k → found t j k ≡ f
  pub same : (k : Key) → d k ≡ None → IsThere s k → IsThere t k → found s i k ≡ found t j k

-- ---- what a run does, and by which names it came to it

-- what a run leaves at a key, where it has done something there
abbrev pub puts : Record → Key → Option Found
puts r (Name n) = if is_touched n r.effects.events then Some (Bound (lookup n (replayed r.effects.events []))) else None
puts r (Input n) = None
puts r (Length b) = if nat_eq b.label r.label then Some (Number (length (r.effects.bases b))) else None
puts r (Byte b p) = if nat_eq b.label r.label then Some (Number (slice_index (r.effects.bases b) p)) else option_map Number (r.effects.writes b p)
puts r OfRule = None

-- no run does nothing: the cell is not in this notebook
abbrev pub puts_by : Option Record → Key → Option Found
puts_by None k = None
puts_by (Some r) k = puts r k

-- the session behind it
abbrev pub did_by : Option Record → Session → Session
did_by None s = s
did_by (Some r) s = with_effects r.label r.effects s

-- some name that the run read was bound to a value in the base
pub record IsNamed (r : Record) (b : Base) : Type 0 where
  pub name : List ℕ
  pub value : Value
  pub read : IsTrue (r.read (Name name))
  pub found : r.values (Name name) ≡ Some (Bound (Some value))
  pub lies : IsTrue (lies_in b value)

-- what it binds lies in a base of its own, or in one that it came to by a name
abbrev pub BindsNamed : Record → List Event → Type 0
BindsNamed r [] = ⊤
BindsNamed r (Binds n v ∷ es) = ((b : Base) → IsTrue (lies_in b v) → (b.label ≡ r.label) ⊎ IsNamed r b) × BindsNamed r es
BindsNamed r (Unbinds n ∷ es) = BindsNamed r es

-- A run comes to the bases of other cells by names alone.
pub record IsByName (r : Record) : Type 0 where
  pub lengths : (b : Base) → IsTrue (r.read (Length b)) → IsNamed r b
  pub bytes : (b : Base) (p : ℕ) → IsTrue (r.read (Byte b p)) → IsNamed r b
  pub events : BindsNamed r r.effects.events

-- THE LAW OF NAMES: so it is with each run.
abbrev pub ByName : Type 0
ByName = (label : ℕ) (p : Parsed) (s : Session) (i : World) → IsByName (record_of label p i s)

-- the record is that of a run over the session
pub record IsRunOver (r : Record) (s : Session) (i : World) : Type 0 where
  pub parsed : Parsed
  pub none : HasNone r.label s
  pub run : r ≡ record_of r.label parsed i s

-- ---- THE LAW

-- a record fits a change: each key that it reads is outside of it, or is now what the run found there
abbrev pub Fits : Change → Record → Type 0
Fits d r = (k : Key) → IsTrue (r.read k) → (d k ≡ None) ⊎ (d k ≡ r.values k)

-- A RECORD HOLDS OVER A CHANGE just where it fits it: no session is asked for that.
abbrev pub HoldsOver : Type 0
HoldsOver = (d : Change) (r : Record) (s t : Session) (i j : World) → IsOver d s i t j → IsRunOver r s i → HasNone r.label t
    → StillHolds r t j ↔ Fits d r

-- A STEP OF A CHANGE over two runs, or one run and none, of which the first leaves the session u and the second the session t. What the
-- change has behind them is there now, or was there before and the second run does nothing there. Outside of it both do the same, or do
-- nothing where the change before had nothing.
pub record IsStep (d : Change) (r q : Option Record) (u t : Session) (j : World) (e : Change) : Type 0 where
  pub now : (k : Key) (f : Found) → e k ≡ Some f → IsThere t k → (found t j k ≡ f) ⊎ ((d k ≡ Some f) × (puts_by q k ≡ None))
  pub same : (k : Key) → e k ≡ None → IsThere u k → IsThere t k → puts_by r k ≡ puts_by q k
  pub rest : (k : Key) → e k ≡ None → IsThere u k → IsThere t k → puts_by r k ≡ None → d k ≡ None

-- THE CHANGE GOES ON behind two runs, one run and none, or one run that is in both.
abbrev pub GoesOn : Type 0
GoesOn = (d e : Change) (r q : Option Record) (s t : Session) (i j : World) → IsOver d s i t j
    → IfSome r (λ r. IsRunOver r s i) → IfSome q (λ q. IsRunOver q t j) → IsStep d r q (did_by r s) (did_by q t) j e → IsOver e (did_by r s) i (did_by q t) j

-- the change without what the run overwrites
abbrev pub without : Record → Change → Change
without r d k = if is_none (puts r k) then d k else None

-- BEHIND A RUN THAT IS IN BOTH the change has lost what it overwrites.
abbrev pub Overwrites : Type 0
Overwrites = (d : Change) (r : Record) (s t : Session) (i j : World) → IsOver d s i t j → IsRunOver r s i → HasNone r.label t → Fits d r
    → IsOver (without r d) (did_by (Some r) s) i (did_by (Some r) t) j

-- A run is disjoint from a change: it reads nothing and does nothing where that has something.
pub record IsDisjoint (d : Change) (r : Record) : Type 0 where
  pub reads : (k : Key) → IsTrue (r.read k) → d k ≡ None
  pub does : (k : Key) → (puts r k ≡ None) ⊎ (d k ≡ None)

-- PAST A RUN THAT IS DISJOINT from the change the record holds, and the change stays as it is.
abbrev pub Passes : Type 0
Passes = (d : Change) (r : Record) (s t : Session) (i j : World) → IsOver d s i t j → IsRunOver r s i → HasNone r.label t → IsDisjoint d r
    → StillHolds r t j × IsOver d (did_by (Some r) s) i (did_by (Some r) t) j
