-- What contracts see of a change, and of the runs that it goes past.
use Rattle.std.specs.Prelude.{◌≡◌, ◌⊎◌, ℕ, Bool, false, nat_eq, IsSome, List, [], Option, Some, None, slice_index}
use Rattle.nd_model.specs.Arrays.Value.{Base, Value, lies_in}
use Rattle.nd_model.specs.Cells.Session.{lookup}
use Rattle.nd_model.specs.Cells.Running.{Event, Binds, Unbinds, Rule, Source}
use Rattle.nd_model.specs.Book.Records.{Record}
use Rattle.nd_change.specs.Change.{Change}
use Rattle.nd_change.specs.Whole.{Whole, binds_in, byte_in, whole_of}
use Rattle.nd_marks.specs.Kept.{KeptData, kept_at}
use Rattle.nd_session.specs.Session.Changes.{ChangesData, bases_in, effects_in, events_in, writes_in}
use Rattle.nd_session.specs.Session.Found.{Found, found_at, lookup_base}
use Rattle.nd_session.specs.Session.Reads.{ReadsData, found_of, keys_of}

-- what stands now: the values of names and the inputs, none where nothing is bound or given, the bytes of bases, single bytes of others, and
-- the rule
pub record ChangeData : Type 0 where
  pub names : List (List ℕ × Option Value)
  pub inputs : List (List ℕ × Option Source)
  pub blocks : List (Base × List ℕ)
  pub parts : List (Base × KeptData)
  pub rule : Option Rule

-- the byte that is kept of a place, none where none is kept
abbrev pub part_at : Option KeptData → ℕ → Option ℕ
part_at None p = None
part_at (Some kept) p = kept_at kept p

abbrev pub whole_in : ChangeData → Whole
whole_in c = record { names = λ n. lookup n c.names; inputs = λ n. lookup n c.inputs; blocks = λ b. lookup_base b c.blocks; bytes = λ b p. part_at (lookup_base b c.parts) p; rule = c.rule }

-- the change that it is
abbrev pub change_of : ChangeData → Change
change_of c = whole_of (whole_in c)

-- At each key there stands what is there now, or what stood there before.
abbrev pub IsNoted : {K A : Type 0} → (K → A) → (old new : K → Option A) → Type 0
IsNoted {K} now old new = (k : K) → (new k ≡ Some (now k)) ⊎ (new k ≡ old k)

-- So it is with single bytes.
abbrev pub AreBytesNoted : (now : Base → List ℕ) (old new : Base → ℕ → Option ℕ) → Type 0
AreBytesNoted now old new = (b : Base) (p : ℕ) → (new b p ≡ Some (slice_index (now b) p)) ⊎ (new b p ≡ old b p)

-- a single byte is in it as it is now; or it is out of it, as it was before, and both runs wrote the same there
abbrev pub IsBytewise : (now : List ℕ) (one other old new : ℕ → Option ℕ) → ℕ → Type 0
IsBytewise now one other old new p = (new p ≡ Some (slice_index now p)) ⊎ ((new p ≡ None) × (old p ≡ None) × (one p ≡ other p))

-- a single byte is in it as it is now, or is not written
abbrev pub IsByteNow : (now : List ℕ) (written new : ℕ → Option ℕ) → ℕ → Type 0
IsByteNow now written new p = (new p ≡ Some (slice_index now p)) ⊎ (written p ≡ None)

-- a base is in it as it is now; or it is of neither label and is not in it, and each byte that is written is in it as it is now
abbrev pub IsWrittenNow : (now : Base → List ℕ) (label beside : ℕ) (blocks : Base → Option (List ℕ)) (bytes : Base → ℕ → Option ℕ) → Base → (ℕ → Option ℕ) → Type 0
IsWrittenNow now label beside blocks bytes b written = (blocks b ≡ Some (now b)) ⊎ ((blocks b ≡ None) × (nat_eq b.label label ≡ false) × (nat_eq b.label beside ≡ false) × ((p : ℕ) → IsByteNow (now b) written (bytes b) p))

-- a byte is as it was and nothing is written there, or is gone, or is the one that is written, where one was before
abbrev pub IsOverwritten : (written old new : ℕ → Option ℕ) → ℕ → Type 0
IsOverwritten written old new p = ((new p ≡ old p) × (written p ≡ None)) ⊎ (IsSome (written p) × ((new p ≡ None) ⊎ ((new p ≡ written p) × IsSome (old p))))

-- ---- runs

-- a run that reads this, and does this
abbrev pub run_in : ReadsData → ChangesData → Record
run_in r c = record { label = c.label; read = keys_of r; values = found_of r; effects = effects_in [] None [] c }

-- a run that reads this, and does nothing
abbrev pub reader_in : ReadsData → Record
reader_in r = run_in r (record { label = 0; next = 0; events = []; written = []; blocks = [] })

-- The run did this to its session.
pub record HasDone (c : ChangesData) (r : Record) : Type 0 where
  pub label : r.label ≡ c.label
  pub events : r.effects.events ≡ events_in c
  pub bases : (b : Base) → r.effects.bases b ≡ bases_in c b
  pub writes : (b : Base) (p : ℕ) → r.effects.writes b p ≡ writes_in c b p

-- ---- what was found

-- a key is outside of the change, or is now what was found there
abbrev pub FitsAt : {A : Type 0} → Option A → A → Type 0
FitsAt o a = (o ≡ None) ⊎ (o ≡ Some a)

-- So it is with the bytes of a base that were found.
abbrev pub HasFound : Option (List ℕ) → (ℕ → Option ℕ) → Found → Type 0
HasFound o bytes e = (p n : ℕ) → found_at e p ≡ Some n → FitsAt (byte_in o (bytes p) p) n

-- ---- what a cell did to blocks

-- the event binds a value in the base
abbrev pub is_bound_in : Base → Event → Bool
is_bound_in b (Binds n v) = lies_in b v
is_bound_in b (Unbinds n) = false

-- the cell binds no value in the base, if it is its own, and writes no byte of it
abbrev pub LeavesBlock : ChangesData → Base → Type 0
LeavesBlock c b = (b.label ≡ c.label → binds_in b (events_in c) ≡ false) × ((p : ℕ) → writes_in c b p ≡ None)

-- a base is in it as it was, and the cell leaves it; single bytes may be as they are now
abbrev pub IsLeftIn : (now : Base → List ℕ) → ChangesData → (old new : Base → Option (List ℕ)) (was is : Base → ℕ → Option ℕ) → Base → Type 0
IsLeftIn now c old new was is b = (new b ≡ old b) × LeavesBlock c b × ((p : ℕ) → (is b p ≡ Some (slice_index (now b) p)) ⊎ (is b p ≡ was b p))

-- a base of neither label is in it by single bytes: each is as it is now, or as it was, and the cell does not write it
abbrev pub IsPartedIn : (now : Base → List ℕ) → ChangesData → (beside : ℕ) (old new : Base → Option (List ℕ)) (was is : Base → ℕ → Option ℕ) → Base → Type 0
IsPartedIn now c beside old new was is b = (old b ≡ None) × (new b ≡ None) × (nat_eq b.label c.label ≡ false) × (nat_eq b.label beside ≡ false)
    × ((p : ℕ) → (is b p ≡ Some (slice_index (now b) p)) ⊎ ((is b p ≡ was b p) × (writes_in c b p ≡ None)))

-- a base is in it as it is now, or is left in it, or is in it by single bytes
abbrev pub IsCarriedPast : (now : Base → List ℕ) → ChangesData → (beside : ℕ) (old new : Base → Option (List ℕ)) (was is : Base → ℕ → Option ℕ) → Base → Type 0
IsCarriedPast now c beside old new was is b = (new b ≡ Some (now b)) ⊎ (IsLeftIn now c old new was is b ⊎ IsPartedIn now c beside old new was is b)

-- a base is in the change as it was, or is out of it: it is of the label, and has the same bytes in both
abbrev pub LosesSame : (label : ℕ) (one other : Base → List ℕ) (old new : Base → Option (List ℕ)) → Base → Type 0
LosesSame label one other old new b = (new b ≡ old b) ⊎ ((new b ≡ None) × (b.label ≡ label) × (one b ≡ other b))
