-- What was read fits a change.
use Rattle.std.proofs.Common.{◌≡◌, ◌⊎◌, ℕ, Bool, true, List, length, slice_index, string_bytes, String, Global, Option, Some, None, option_map, refl, sym, ap, subst, ◌∙◌, inl, inr, nat_eq, arith}
use Rattle.std.specs.Prelude.{◌↔◌, is_some, IsTrue}
use Rattle.std.specs.declared.rc.Rc.{Rc}
use Rattle.std.proofs.lemmas.Bool.Decides.{nat_tests}
use Rattle.nd_change.specs.Change.{Fits}
use Rattle.nd_change.specs.Whole.{Whole, byte_in, whole_of}
use Rattle.nd_heap.specs.declared.value.Base.{Base}
use Rattle.nd_heap.specs.declared.value.Value.{Value}
use Rattle.nd_heap.specs.Values.{base_of}
use Rattle.nd_model.specs.Arrays.Value as model
use Rattle.nd_model.specs.Cells.Footprint.{Bound, Given, Number, Ruled}
use Rattle.nd_model.specs.Cells.Running.{Name, Input, Length, Byte, OfRule, Rule, Source}
use Rattle.nd_model.specs.Cells.Session.{lookup}
use Rattle.nd_input.specs.declared.Input as code
use Rattle.nd_session.specs.declared.session.found.FoundBytes.{FoundBytes}
use Rattle.nd_session.specs.Session.Change.{FitsAt, HasFound, reader_in}
use Rattle.nd_session.specs.Session.Found as places
use Rattle.nd_session.specs.Session.Found.{byte_at, bytes_of, found_at, lookup_base}
use Rattle.nd_session.specs.Session.Reading.{source_at, value_at}
use Rattle.nd_session.specs.Session.Reads.{ReadsData}
use Rattle.nd_session.proofs.session.Agreeing.{false_true}
use Rattle.nd_session.proofs.session.Standing.{none_some, same_some}

-- ---- at one key

pub fits_some : {A : Type 0} (o : Option A) (x a : A) (t : Bool) → o ≡ Some x → IsTrue t ↔ (a ≡ x) → IsTrue t ↔ FitsAt o a
fits_some o x a t is same = (
  λ yes. inr (is ∙ ap Some (sym (same.0 yes))),
  λ h. elim h [ inl none ↦ none_some x (sym none ∙ is) | inr there ↦ same.1 (sym (same_some x a (sym is ∙ there))) ],
)

pub fits_none : {A : Type 0} (o : Option A) (a : A) → o ≡ None → IsTrue true ↔ FitsAt o a
fits_none o a is = (λ yes. inl is, λ h. refl)

pub same_along : {A : Type 0} (t : Bool) (a b x y : A) → a ≡ x → b ≡ y → IsTrue t ↔ (a ≡ b) → IsTrue t ↔ (x ≡ y)
same_along t a b x y one two same = (λ yes. sym one ∙ same.0 yes ∙ two, λ e. same.1 (one ∙ e ∙ sym two))

pub found_some : (o : Option (List ℕ)) (w : ℕ → Option ℕ) (bytes : List ℕ) (e : places.Found) (t : Bool) → o ≡ Some bytes → IsTrue t ↔ ((p n : ℕ) → found_at e p ≡ Some n → slice_index bytes p ≡ n) → IsTrue t ↔ HasFound o w e
found_some o w bytes e t is same = (
  λ yes p n at. inr (ap (λ o. byte_in o (w p) p) is ∙ ap Some (same.0 yes p n at)),
  λ h. same.1 (λ p n at. elim (h p n at) [
    | inl none ↦ none_some (slice_index bytes p) (sym none ∙ ap (λ o. byte_in o (w p) p) is)
    | inr there ↦ same_some (slice_index bytes p) n (sym (ap (λ o. byte_in o (w p) p) is) ∙ there)
  ]),
)

-- where the base is not there as a whole, single bytes decide
abbrev pub IsByteFound : (ℕ → Option ℕ) → places.Found → Type 0
IsByteFound w e = (p a n : ℕ) → w p ≡ Some a → found_at e p ≡ Some n → a ≡ n

pub found_none : (o : Option (List ℕ)) (w : ℕ → Option ℕ) (e : places.Found) (t : Bool) → o ≡ None → IsTrue t ↔ IsByteFound w e → IsTrue t ↔ HasFound o w e
found_none o w e t is same = (
  λ yes p n at. either (w p) refl n (λ a there. same.0 yes p a n there at),
  λ h. same.1 (λ p a n there at. elim (h p n at) [
    | inl none ↦ none_some a (sym none ∙ ap (λ o. byte_in o (w p) p) is ∙ there)
    | inr now ↦ same_some a n (sym there ∙ sym (ap (λ o. byte_in o (w p) p) is) ∙ now)
  ]),
)
  where
    either : {p : ℕ} (x : Option ℕ) → w p ≡ x → (n : ℕ) → ((a : ℕ) → w p ≡ Some a → a ≡ n) → FitsAt (byte_in o (w p) p) n
    either {p} None none n h = inl (ap (λ o. byte_in o (w p) p) is ∙ none)
    either {p} (Some a) there n h = inr (ap (λ o. byte_in o (w p) p) is ∙ there ∙ ap Some (h a there))

pub same_number : (m n : ℕ) → m ≡ n → nat_eq m n ≡ true
same_number m n e = grind (arith, nat_tests)

-- ---- at an entry

abbrev pub IsNameFit : (List ℕ → Option (Option model.Value)) → String Global × Option (Rc Value Global) → Type 0
IsNameFit names e = FitsAt (names (string_bytes e.0)) (value_at e.1)

abbrev pub IsInputFit : (List ℕ → Option (Option Source)) → String Global × Option (Rc code.Input Global) → Type 0
IsInputFit inputs e = FitsAt (inputs (string_bytes e.0)) (source_at e.1)

abbrev pub IsLengthFit : (model.Base → Option (List ℕ)) → Base × ℕ → Type 0
IsLengthFit blocks e = FitsAt (option_map length (blocks (base_of e.0))) e.1

abbrev pub AreBytesFit : (model.Base → Option (List ℕ)) → (model.Base → ℕ → Option ℕ) → Base × FoundBytes → Type 0
AreBytesFit blocks bytes e = HasFound (blocks (base_of e.0)) (bytes (base_of e.0)) (bytes_of e.1)

-- ---- at all keys

is_some_from : {X Y : Type 0} (f : X → Y) (o : Option X) (x : X) → o ≡ Some x → is_some (option_map f o) ≡ true
is_some_from f o x is = ap (λ o. is_some (option_map f o)) is

map_twice : {X Y Z : Type 0} (f : Y → Z) (g : X → Y) (o : Option X) → option_map (λ x. f (g x)) o ≡ option_map f (option_map g o)
map_twice f g None = refl
map_twice f g (Some x) = refl

-- what stands in the change is what was read
abbrev SameIn : {X Y : Type 0} → (X → Y) → (o p : Option X) → Type 0
SameIn f o p = (option_map f o ≡ None) ⊎ (option_map f o ≡ option_map f p)

fit_there : {X Y : Type 0} (f : X → Y) (o p : Option X) → ((x : X) → p ≡ Some x → FitsAt o x) → is_some (option_map f p) ≡ true → SameIn f o p
fit_there f o None h there = false_true there
fit_there f o (Some x) h there = elim (h x refl) [ inl none ↦ inl (ap (option_map f) none) | inr same ↦ inr (ap (option_map f) same) ]

fit_from : {X Y : Type 0} (f : X → Y) → ((x y : X) → f x ≡ f y → x ≡ y) → (o p : Option X) (x : X) → p ≡ Some x → SameIn f o p → FitsAt o x
fit_from f one None p x is h = inl refl
fit_from f one (Some y) p x is h = elim h [
  | inl none ↦ none_some (f y) (sym none)
  | inr same ↦ inr (ap Some (one y x (same_some (f y) (f x) (same ∙ ap (option_map f) is))))
]

byte_there : (o : Option places.Found) (p : ℕ) (P : ℕ → Type 0) → ((e : places.Found) → o ≡ Some e → (n : ℕ) → found_at e p ≡ Some n → P n) → (n : ℕ) → byte_at o p ≡ Some n → P n
byte_there None p P h n at = none_some n at
byte_there (Some e) p P h n at = h e refl n at

bound : (x y : Option model.Value) → Bound x ≡ Bound y → x ≡ y
bound x y e = cc

given : (x y : Option Source) → Given x ≡ Given y → x ≡ y
given x y e = cc

number : (m n : ℕ) → Number m ≡ Number n → m ≡ n
number m n e = cc

ruled : (x y : Rule) → Ruled x ≡ Ruled y → x ≡ y
ruled x y e = cc

-- what is asked of each value of an option that is there
pub for_some : {A : Type 0} (P : A → Type 0) (b : Bool) (o : Option A) (a : A) → o ≡ Some a → (IsTrue b ↔ P a) → IsTrue b ↔ ((x : A) → o ≡ Some x → P x)
for_some P b o a is h = (λ yes x there. subst P (same_some a x (sym is ∙ there)) (h.0 yes), λ all. h.1 (all a is))

module _ (c : Whole) (r : ReadsData) where
  abbrev pub NamesFit : Type 0
  NamesFit = (n : List ℕ) (v : Option model.Value) → lookup n r.names ≡ Some v → FitsAt (c.names n) v

  abbrev pub InputsFit : Type 0
  InputsFit = (n : List ℕ) (x : Option Source) → lookup n r.inputs ≡ Some x → FitsAt (c.inputs n) x

  abbrev pub LengthsFit : Type 0
  LengthsFit = (b : model.Base) (n : ℕ) → lookup_base b r.lengths ≡ Some n → FitsAt (option_map length (c.blocks b)) n

  abbrev pub BytesFit : Type 0
  BytesFit = (b : model.Base) (e : places.Found) → lookup_base b r.bytes ≡ Some e → HasFound (c.blocks b) (c.bytes b) e

  abbrev pub RuleFits : Type 0
  RuleFits = (x : Rule) → r.rule ≡ Some x → FitsAt c.rule x

  long : (b : model.Base) → option_map (λ bytes. Number (length bytes)) (c.blocks b) ≡ option_map Number (option_map length (c.blocks b))
  long b = map_twice Number length (c.blocks b)

  abbrev byte : model.Base → ℕ → Option ℕ
  byte b p = byte_in (c.blocks b) (c.bytes b p) p

  along : {Y : Type 0} (x y z : Option Y) → x ≡ y → (y ≡ None) ⊎ (y ≡ z) → (x ≡ None) ⊎ (x ≡ z)
  along x y z is h = elim h [ inl none ↦ inl (is ∙ none) | inr same ↦ inr (is ∙ same) ]

  pub fitting : RuleFits → NamesFit → InputsFit → LengthsFit → BytesFit → Fits (whole_of c) (reader_in r)
  fitting rule names inputs lengths bytes OfRule there = fit_there Ruled c.rule r.rule rule there
  fitting rule names inputs lengths bytes (Name n) there = fit_there Bound (c.names n) (lookup n r.names) (names n) there
  fitting rule names inputs lengths bytes (Input n) there = fit_there Given (c.inputs n) (lookup n r.inputs) (inputs n) there
  fitting rule names inputs lengths bytes (Length b) there = along _ _ _ (long b) (fit_there Number (option_map length (c.blocks b)) (lookup_base b r.lengths) (lengths b) there)
  fitting rule names inputs lengths bytes (Byte b p) there = fit_there Number (byte b p) (byte_at (lookup_base b r.bytes) p) (byte_there (lookup_base b r.bytes) p (λ n. FitsAt (byte b p) n) (λ e at. bytes b e at p)) there

  pub rule_fits : Fits (whole_of c) (reader_in r) → RuleFits
  rule_fits all x at = fit_from Ruled ruled c.rule r.rule x at (all OfRule (is_some_from Ruled r.rule x at))

  pub names_fit : Fits (whole_of c) (reader_in r) → NamesFit
  names_fit all n v at = fit_from Bound bound (c.names n) (lookup n r.names) v at (all (Name n) (is_some_from Bound (lookup n r.names) v at))

  pub inputs_fit : Fits (whole_of c) (reader_in r) → InputsFit
  inputs_fit all n x at = fit_from Given given (c.inputs n) (lookup n r.inputs) x at (all (Input n) (is_some_from Given (lookup n r.inputs) x at))

  pub lengths_fit : Fits (whole_of c) (reader_in r) → LengthsFit
  lengths_fit all b n at = fit_from Number number (option_map length (c.blocks b)) (lookup_base b r.lengths) n at
      (along _ _ _ (sym (long b)) (all (Length b) (is_some_from Number (lookup_base b r.lengths) n at)))

  pub bytes_fit : Fits (whole_of c) (reader_in r) → BytesFit
  bytes_fit all b e at p n there =
      let is : byte_at (lookup_base b r.bytes) p ≡ Some n = ap (λ o. byte_at o p) at ∙ there in
      fit_from Number number (byte b p) (byte_at (lookup_base b r.bytes) p) n is (all (Byte b p) (is_some_from Number (byte_at (lookup_base b r.bytes) p) n is))
