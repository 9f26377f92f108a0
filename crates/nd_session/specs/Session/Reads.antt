-- What a cell read, with what it found there, as plain lists.
use Rattle.std.specs.Prelude.{◌≡◌, ℕ, Bool, refl, List, length, slice_index, Option, option_map, is_some}
use Rattle.nd_session.specs.Session.Found.{byte_at, lookup_base}
use Rattle.nd_session.specs.Session.Found as places
use Rattle.nd_trace.specs.Seen.{Seen, is_read_in}
use Rattle.nd_model.specs.Arrays.Value.{Base, Value}
use Rattle.nd_model.specs.Cells.Session.{Session, lookup, collected}
use Rattle.nd_model.specs.Cells.Running.{Key, Name, Input, Length, Byte, OfRule, Rule, Source, World}
use Rattle.nd_model.specs.Cells.Footprint.{Found, Bound, Given, Number, Ruled, found}

-- names, inputs, the lengths of bases, and the bytes of bases at the places that were read, with what was found there; and the rule,
-- if it was read
pub record ReadsData : Type 0 where
  pub names : List (List ℕ × Option Value)
  pub inputs : List (List ℕ × Option Source)
  pub lengths : List (Base × ℕ)
  pub bytes : List (Base × places.Found)
  pub rule : Option Rule

-- what was found at a key, and none where it was not read
abbrev pub found_of : ReadsData → Key → Option Found
found_of r (Name n) = option_map Bound (lookup n r.names)
found_of r (Input n) = option_map Given (lookup n r.inputs)
found_of r (Length b) = option_map Number (lookup_base b r.lengths)
found_of r (Byte b p) = option_map Number (byte_at (lookup_base b r.bytes) p)
found_of r OfRule = option_map Ruled r.rule

-- the key was read
abbrev pub keys_of : ReadsData → Key → Bool
keys_of r k = is_some (found_of r k)

-- what stands at a key, whether or not a bound value lies in its base
abbrev pub found_in : Session → World → Key → Found
found_in s w (Name n) = Bound (lookup n s.names)
found_in s w (Input n) = Given (w.inputs n)
found_in s w (Length b) = Number (length (s.bytes b))
found_in s w (Byte b p) = Number (slice_index (s.bytes b) p)
found_in s w OfRule = Ruled w.rule

-- the same as in the definitions, where only the bases that are held have bytes
pub found_when_collected : (s : Session) (w : World) (k : Key) → found_in (collected s) w k ≡ found s w k
found_when_collected s w (Name n) = refl
found_when_collected s w (Input n) = refl
found_when_collected s w (Length b) = refl
found_when_collected s w (Byte b p) = refl
found_when_collected s w OfRule = refl

-- what a cell has read: what its trace lists, and the rule where it is refused
abbrev pub is_read_by : Seen → Bool → Key → Bool
is_read_by t refused (Name n) = is_read_in t (Name n)
is_read_by t refused (Input n) = is_read_in t (Input n)
is_read_by t refused (Length b) = is_read_in t (Length b)
is_read_by t refused (Byte b p) = is_read_in t (Byte b p)
is_read_by t refused OfRule = refused
