-- Changes that have bases whole or by single bytes, and when they are carried on right: behind a run that is in both notebooks, behind runs
-- that are in one, and put over a session.
use Rattle.std.specs.Prelude.{◌≡◌, ◌⊎◌, ℕ, Bool, true, false, ◌||◌, IsSome, List, [], ◌∷◌, length, slice_index, MatchOption, Option, Some, None, option_map, unwrap_or, nat_eq, if◌then◌else◌, ⊤}
use Rattle.nd_model.specs.Arrays.Value.{Base, Value, lies_in}
use Rattle.nd_model.specs.Cells.Session.{Session, lookup, is_held, held_bytes}
use Rattle.nd_model.specs.Cells.Running.{Event, Binds, Unbinds, Key, Name, Input, Length, Byte, OfRule, Source, Rule, World, is_touched}
use Rattle.nd_model.specs.Cells.Footprint.{Bound, Given, Number, Ruled, patched}
use Rattle.nd_model.specs.Book.Records.{Record}
use Rattle.nd_model.specs.Book.Sessions.{IsOnce}
use Rattle.nd_change.specs.Change.{Change, puts, puts_by}
use Rattle.nd_change.specs.Steps.{Keeps, Follows, Leaves, Comes, IsPutOver}

-- what is there now of names and inputs, none where nothing is bound or given, of whole bases, of single bytes of others, and the rule
pub record Whole : Type 0 where
  pub names : List ℕ → Option (Option Value)
  pub inputs : List ℕ → Option (Option Source)
  pub blocks : Base → Option (List ℕ)
  pub bytes : Base → ℕ → Option ℕ
  pub rule : Option Rule

-- the byte of a whole base, or the single one where there is none
abbrev pub byte_in : Option (List ℕ) → Option ℕ → ℕ → Option ℕ
byte_in None byte p = byte
byte_in (Some bytes) byte p = Some (slice_index bytes p)

-- A base that is in it whole is in it with its length and the byte at each place. Single bytes say nothing of a length.
abbrev pub whole_of : Whole → Change
whole_of c (Name n) = option_map Bound (c.names n)
whole_of c (Input n) = option_map Given (c.inputs n)
whole_of c (Length b) = option_map (λ bytes. Number (length bytes)) (c.blocks b)
whole_of c (Byte b p) = option_map Number (byte_in (c.blocks b) (c.bytes b p) p)
whole_of c OfRule = option_map Ruled c.rule

-- some event binds a value in the base
abbrev pub binds_in : Base → List Event → Bool
binds_in b [] = false
binds_in b (Binds n v ∷ es) = lies_in b v || binds_in b es
binds_in b (Unbinds n ∷ es) = binds_in b es

-- ---- behind a run that is in both

-- The names that the run touches are gone, and the bases of its own that it binds. Its bytes are written to the others. A single byte that
-- it writes is gone or is the one that it wrote.
pub record IsWithout (r : Record) (c e : Whole) : Type 0 where
  pub names : (n : List ℕ) → e.names n ≡ (if is_touched n r.effects.events then None else c.names n)
  pub inputs : (n : List ℕ) → e.inputs n ≡ c.inputs n
  pub rule : e.rule ≡ c.rule
  pub own : (b : Base) → b.label ≡ r.label → binds_in b r.effects.events ≡ true → e.blocks b ≡ None
  pub own_bytes : (b : Base) (p : ℕ) → b.label ≡ r.label → binds_in b r.effects.events ≡ true → e.bytes b p ≡ None
  pub blocks : (b : Base) → nat_eq b.label r.label ≡ false → e.blocks b ≡ option_map (patched (r.effects.writes b)) (c.blocks b)
  pub bytes : (b : Base) (p : ℕ) → nat_eq b.label r.label ≡ false → MatchOption (r.effects.writes b p) (e.bytes b p ≡ c.bytes b p) (λ n. (e.bytes b p ≡ None) ⊎ (e.bytes b p ≡ Some n))

abbrev pub KeepsWhole : Type 0
KeepsWhole = (r : Record) (c e : Whole) → IsWithout r c e → Keeps (whole_of c) (whole_of e) r

-- ---- names and bases that a run leaves

abbrev pub LeavesName : Option Record → List ℕ → Type 0
LeavesName None n = ⊤
LeavesName (Some r) n = is_touched n r.effects.events ≡ false

-- the run binds no value in the base, if it is its own, and writes no byte of it
abbrev pub LeavesBase : Option Record → Base → Type 0
LeavesBase None b = ⊤
LeavesBase (Some r) b = (b.label ≡ r.label → binds_in b r.effects.events ≡ false) × ((p : ℕ) → r.effects.writes b p ≡ None)

-- the base is in it with the bytes that it has in the session, if it is in that
abbrev pub HasBase : Whole → Session → Base → Type 0
HasBase e t b = (bytes : List ℕ) × (e.blocks b ≡ Some bytes) × (is_held b t.names ≡ true → bytes ≡ held_bytes t b)

-- the byte is in it as it is in the session, if its base is in that
abbrev pub HasByte : Whole → Session → Base → ℕ → Type 0
HasByte e t b p = (n : ℕ) × (e.bytes b p ≡ Some n) × (is_held b t.names ≡ true → n ≡ slice_index (held_bytes t b) p)

-- the base is in it as it was, and each single byte too, or as it is in the session
pub record IsAsItWas (t : Session) (c e : Whole) (b : Base) : Type 0 where
  pub block : e.blocks b ≡ c.blocks b
  pub bytes : (p : ℕ) → HasByte e t b p ⊎ (e.bytes b p ≡ c.bytes b p)

-- The base is in it by single bytes, before and now. Each is as it is in the session, or is as it was, and both runs leave it.
pub record HasPart (r q : Option Record) (t : Session) (c e : Whole) (b : Base) : Type 0 where
  pub was : c.blocks b ≡ None
  pub out : e.blocks b ≡ None
  pub old : puts_by r (Length b) ≡ None
  pub new : puts_by q (Length b) ≡ None
  pub bytes : (p : ℕ) → HasByte e t b p ⊎ ((e.bytes b p ≡ c.bytes b p) × (puts_by r (Byte b p) ≡ None) × (puts_by q (Byte b p) ≡ None))

-- ---- behind two runs of a cell

-- A key may be out of the change: both runs do the same there, and something where the change before had something.
pub record IsOut (r q : Record) (c : Whole) (k : Key) : Type 0 where
  pub same : puts r k ≡ puts q k
  pub rest : puts r k ≡ None → whole_of c k ≡ None

-- The base is out of the change as a whole, and so may its length be. Each byte is in it as it is in the session, or may be out of it.
pub record LosesBase (r q : Record) (t : Session) (c e : Whole) (b : Base) : Type 0 where
  pub out : e.blocks b ≡ None
  pub length : IsOut r q c (Length b)
  pub bytes : (p : ℕ) → HasByte e t b p ⊎ ((e.bytes b p ≡ None) × IsOut r q c (Byte b p))

-- the run binds no value in a base of its own, so that it is not there behind it
abbrev pub IsGone : Record → Base → Type 0
IsGone q b = (b.label ≡ q.label) × (binds_in b q.effects.events ≡ false)

-- Each name and base is in it as it is in the session, or is as it was, and both runs leave it, or may be out of it. A base may be in it by
-- single bytes. Nothing is asked of one that is not there.
pub record IsWithBoth (r q : Record) (t : Session) (c e : Whole) : Type 0 where
  pub names : (n : List ℕ) → (e.names n ≡ Some (lookup n t.names)) ⊎ (((e.names n ≡ c.names n) × LeavesName (Some r) n × LeavesName (Some q) n) ⊎ ((e.names n ≡ None) × IsOut r q c (Name n)))
  pub inputs : (n : List ℕ) → e.inputs n ≡ c.inputs n
  pub rule : e.rule ≡ c.rule
  pub blocks : (b : Base) → HasBase e t b ⊎ ((IsAsItWas t c e b × LeavesBase (Some r) b × LeavesBase (Some q) b) ⊎ (HasPart (Some r) (Some q) t c e b ⊎ (LosesBase r q t c e b ⊎ IsGone q b)))

abbrev pub FollowsWhole : Type 0
FollowsWhole = (r q : Record) (t : Session) (j : World) (c e : Whole) → IsWithBoth r q t c e → Follows (whole_of c) (whole_of e) r q t j

-- ---- behind runs that are in one

-- Each name and base is in it as it is in the session, or is as it was, and the run leaves it. A base may be in it by single bytes.
pub record IsWith (r q : Option Record) (t : Session) (c e : Whole) : Type 0 where
  pub names : (n : List ℕ) → (e.names n ≡ Some (lookup n t.names)) ⊎ ((e.names n ≡ c.names n) × LeavesName r n × LeavesName q n)
  pub inputs : (n : List ℕ) → e.inputs n ≡ c.inputs n
  pub rule : e.rule ≡ c.rule
  pub blocks : (b : Base) → HasBase e t b ⊎ ((IsAsItWas t c e b × LeavesBase r b × LeavesBase q b) ⊎ HasPart r q t c e b)

abbrev pub LeavesWhole : Type 0
LeavesWhole = (r : Record) (t : Session) (c e : Whole) → IsWith (Some r) None t c e → Leaves (whole_of c) (whole_of e) r t

abbrev pub ComesWhole : Type 0
ComesWhole = (q : Record) (t : Session) (c e : Whole) → IsWith None (Some q) t c e → Comes (whole_of c) (whole_of e) q t

-- ---- over a session

-- The session has the names and bases of the change, and else those that were there, with its single bytes written to them. A base that was
-- not there is in the change whole.
pub record IsPut (c : Whole) (s u : Session) : Type 0 where
  pub names : (n : List ℕ) → lookup n u.names ≡ unwrap_or (c.names n) (lookup n s.names)
  pub blocks : (b : Base) → is_held b u.names ≡ true → held_bytes u b ≡ unwrap_or (c.blocks b) (patched (c.bytes b) (held_bytes s b))
  pub known : (b : Base) → is_held b u.names ≡ true → (is_held b s.names ≡ true) ⊎ IsSome (c.blocks b)
  pub once : IsOnce u.names

abbrev pub PutsWhole : Type 0
PutsWhole = (c : Whole) (s u : Session) → IsPut c s u → IsPutOver (whole_of c) s u
