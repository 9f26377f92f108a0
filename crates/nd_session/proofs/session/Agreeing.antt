-- What was read stands as it was found.
use Rattle.std.proofs.Common.{◌≡◌, ℕ, true, false, List, length, slice_index, string_bytes, String, Global, Option, Some, None, option_map, Bor, refl, sym, ap, ◌∙◌}
use Rattle.std.specs.Prelude.{is_some, IsTrue}
use Rattle.std.specs.declared.rc.Rc.{Rc}
use Rattle.nd_model.specs.Arrays.Value as model
use Rattle.nd_model.specs.Cells.Session.{Names, Session, lookup, held_bytes}
use Rattle.nd_model.specs.Cells.Running.{Key, Name, Input, Length, Byte, OfRule, Inputs, Rule, World, Source}
use Rattle.nd_model.specs.Cells.Footprint.{Bound, Given, Number, Ruled, found}
use Rattle.nd_heap.specs.declared.value.Base.{Base}
use Rattle.nd_heap.specs.declared.value.Value.{Value}
use Rattle.nd_input.specs.declared.Input as code
use Rattle.nd_session.specs.declared.session.found.FoundBytes.{FoundBytes}
use Rattle.nd_session.specs.Session.Found as places
use Rattle.nd_session.specs.Session.Found.{byte_at, bytes_of, found_at, lookup_base}
use Rattle.std.specs.Option.{option_copied}
use Rattle.nd_heap.specs.Values.{base_of, value_of}
use Rattle.nd_input.specs.Sources.{source_of}
use Rattle.nd_session.specs.Session.Reading.{value_at, source_at}
use Rattle.nd_session.specs.Session.Reads.{ReadsData, found_of, keys_of}

-- ---- at an entry

abbrev pub IsNameFound : Names → String Global × Option (Rc Value Global) → Type 0
IsNameFound names e = value_at e.1 ≡ lookup (string_bytes e.0) names

abbrev pub IsLengthFound : Session → Base × ℕ → Type 0
IsLengthFound s e = e.1 ≡ length (held_bytes s (base_of e.0))

-- the bytes at the places are those of the base
abbrev pub AreSameBytes : Session → model.Base → places.Found → Type 0
AreSameBytes s b e = (p n : ℕ) → found_at e p ≡ Some n → slice_index (held_bytes s b) p ≡ n

abbrev pub AreBytesFound : Session → Base × FoundBytes → Type 0
AreBytesFound s e = AreSameBytes s (base_of e.0) (bytes_of e.1)

abbrev pub IsInputFound : Inputs → String Global × Option (Rc code.Input Global) → Type 0
IsInputFound inputs e = source_at e.1 ≡ inputs (string_bytes e.0)

pub lent_value : (r : Option (Bor (Rc Value Global))) → option_map (λ (v : Bor (Rc Value Global)). value_of v.now.value) r ≡ value_at (option_copied r)
lent_value None = refl
lent_value (Some v) = refl

pub lent_source : (r : Option (Bor (Rc code.Input Global))) → option_map (λ (x : Bor (Rc code.Input Global)). source_of x.now.value) r ≡ source_at (option_copied r)
lent_source None = refl
lent_source (Some x) = refl

pub false_true : {P : Type 0} → false ≡ true → P
false_true e = cc

-- ---- at a key

is_some_from : {X Y : Type 0} (f : X → Y) (o : Option X) (x : X) → o ≡ Some x → is_some (option_map f o) ≡ true
is_some_from f o x is = ap (λ o. is_some (option_map f o)) is

bound : (o p : Option model.Value) → Some (Bound o) ≡ Some (Bound p) → o ≡ p
bound o p h = cc

given : (o p : Option Source) → Some (Given o) ≡ Some (Given p) → o ≡ p
given o p h = cc

number : (m n : ℕ) → Some (Number m) ≡ Some (Number n) → m ≡ n
number m n h = cc

-- what is found, where something is
found_there : {X Y : Type 0} (f : X → Y) (o : Option X) (y : Y) → ((x : X) → o ≡ Some x → f x ≡ y) → is_some (option_map f o) ≡ true → option_map f o ≡ Some y
found_there f None y h there = false_true there
found_there f (Some x) y h there = ap Some (h x refl)

none_some : {P : Type 0} (n : ℕ) → None ≡ Some n → P
none_some n h = cc

byte_there : (o : Option places.Found) (p m : ℕ) → ((e : places.Found) → o ≡ Some e → (n : ℕ) → found_at e p ≡ Some n → m ≡ n) → (n : ℕ) → byte_at o p ≡ Some n → n ≡ m
byte_there None p m h n at = none_some n at
byte_there (Some e) p m h n at = sym (h e refl n at)

ruled : (x y : Rule) → Some (Ruled x) ≡ Some (Ruled y) → x ≡ y
ruled x y h = cc

module _ (r : ReadsData) (s : Session) (w : World) where
  abbrev pub SameNames : Type 0
  SameNames = (n : List ℕ) (v : Option model.Value) → lookup n r.names ≡ Some v → v ≡ lookup n s.names

  abbrev pub SameInputs : Type 0
  SameInputs = (n : List ℕ) (x : Option Source) → lookup n r.inputs ≡ Some x → x ≡ w.inputs n

  abbrev pub SameLengths : Type 0
  SameLengths = (b : model.Base) (n : ℕ) → lookup_base b r.lengths ≡ Some n → n ≡ length (held_bytes s b)

  abbrev pub SameBytes : Type 0
  SameBytes = (b : model.Base) (e : places.Found) → lookup_base b r.bytes ≡ Some e → AreSameBytes s b e

  abbrev pub SameRule : Type 0
  SameRule = (x : Rule) → r.rule ≡ Some x → x ≡ w.rule

  abbrev pub Agreed : Type 0
  Agreed = (k : Key) → IsTrue (keys_of r k) → found_of r k ≡ Some (found s w k)

  pub agreeing : SameRule → SameNames → SameInputs → SameLengths → SameBytes → Agreed
  agreeing rule names given long bytes OfRule there = found_there Ruled r.rule _ (λ x is. ap Ruled (rule x is)) there
  agreeing rule names given long bytes (Name n) there = found_there Bound (lookup n r.names) _ (λ v is. ap Bound (names n v is)) there
  agreeing rule names given long bytes (Input n) there = found_there Given (lookup n r.inputs) _ (λ x is. ap Given (given n x is)) there
  agreeing rule names given long bytes (Length b) there = found_there Number (lookup_base b r.lengths) _ (λ n is. ap Number (long b n is)) there
  agreeing rule names given long bytes (Byte b p) there = found_there Number (byte_at (lookup_base b r.bytes) p) _
      (λ n is. ap Number (byte_there (lookup_base b r.bytes) p _ (λ e at n is. bytes b e at p n is) n is)) there

  pub agree_rule : Agreed → SameRule
  agree_rule all x is = ruled _ _ (sym (ap (option_map Ruled) is) ∙ all OfRule (is_some_from Ruled r.rule x is))

  pub agree_names : Agreed → SameNames
  agree_names all n v is = bound _ _ (sym (ap (option_map Bound) is) ∙ all (Name n) (is_some_from Bound (lookup n r.names) v is))

  pub agree_inputs : Agreed → SameInputs
  agree_inputs all n x is = given _ _ (sym (ap (option_map Given) is) ∙ all (Input n) (is_some_from Given (lookup n r.inputs) x is))

  pub agree_lengths : Agreed → SameLengths
  agree_lengths all b n is = number _ _ (sym (ap (option_map Number) is) ∙ all (Length b) (is_some_from Number (lookup_base b r.lengths) n is))

  pub agree_bytes : Agreed → SameBytes
  agree_bytes all b e is p n there =
      let at : byte_at (lookup_base b r.bytes) p ≡ Some n = ap (λ o. byte_at o p) is ∙ there in
      sym (number _ _ (sym (ap (option_map Number) at) ∙ all (Byte b p) (is_some_from Number (byte_at (lookup_base b r.bytes) p) _ at)))
