-- Entries by their texts and by their bases: what is found is the key of an entry, and each key is found.
use Rattle.std.proofs.Common.{◌≡◌, ℕ, zero, suc, ◌<◌, true, cond, bytes_eq, arith, List, [], ◌∷◌, length, Option, Some, None, is_some, option_map, refl, sym, ap, subst, ◌∙◌, inl, inr, slice_get}
use Rattle.std.proofs.lemmas.Bool.{cases_Bool, both_ways, false≢true}
use Rattle.std.proofs.lemmas.Option.{none-some, same_Some}
use Rattle.nd_model.specs.Arrays.Value.{Base, same_base}
use Rattle.nd_model.specs.Cells.Session.{lookup}
use Rattle.nd_heap.proofs.Same.{base_same, bytes_same, same_bases, same_bytes}
use Rattle.nd_session.specs.Session.Found.{Found, byte_at, lookup_base}

pub is_some-map : {A B : Type 0} (f : A → B) (o : Option A) → is_some (option_map f o) ≡ is_some o
is_some-map f None = refl
is_some-map f (Some a) = refl

pub name_entry : {A : Type 0} (es : List (List ℕ × A)) (n : List ℕ) → is_some (lookup n es) ≡ true → (k : ℕ) × (k < length es) × (option_map (λ (e : List ℕ × A). e.0) (slice_get es k) ≡ Some n)
name_entry [] n h = absurd (false≢true h)
name_entry {A} (e ∷ es) n h = elim (cases_Bool (bytes_eq n e.0)) [
  | inl is ↦ (0, omega arith, ap Some (sym (same_bytes n e.0 is)))
  | inr other ↦
      let rest : is_some (lookup n es) ≡ true = sym (ap (λ t. is_some (cond t (Some e.1) (lookup n es))) other) ∙ h in
      let t = name_entry es n rest in
      (suc t.0, omega (arith, t.1), t.2)
]

pub entry_name : {A : Type 0} (es : List (List ℕ × A)) (k : ℕ) (n : List ℕ) → option_map (λ (e : List ℕ × A). e.0) (slice_get es k) ≡ Some n → is_some (lookup n es) ≡ true
entry_name [] k n h = absurd (none-some n h)
entry_name (e ∷ es) zero n h = elim (cases_Bool (bytes_eq n e.0)) [
  | inl is ↦ rw is refl
  | inr other ↦ absurd (both_ways (bytes_eq n e.0) other (subst (λ m. bytes_eq n m ≡ true) (sym (same_Some e.0 n h)) (bytes_same n)))
]
entry_name (e ∷ es) (suc k) n h = elim (cases_Bool (bytes_eq n e.0)) [ inl is ↦ rw is refl | inr other ↦ rw other (entry_name es k n h) ]

pub base_entry : {A : Type 0} (es : List (Base × A)) (b : Base) → is_some (lookup_base b es) ≡ true → (k : ℕ) × (k < length es) × (option_map (λ (e : Base × A). e.0) (slice_get es k) ≡ Some b)
base_entry [] b h = absurd (false≢true h)
base_entry {A} (e ∷ es) b h = elim (cases_Bool (same_base b e.0)) [
  | inl is ↦ (0, omega arith, ap Some (sym (same_bases b e.0 is)))
  | inr other ↦
      let rest : is_some (lookup_base b es) ≡ true = sym (ap (λ t. is_some (cond t (Some e.1) (lookup_base b es))) other) ∙ h in
      let t = base_entry es b rest in
      (suc t.0, omega (arith, t.1), t.2)
]

pub entry_base : {A : Type 0} (es : List (Base × A)) (k : ℕ) (b : Base) → option_map (λ (e : Base × A). e.0) (slice_get es k) ≡ Some b → is_some (lookup_base b es) ≡ true
entry_base [] k b h = absurd (none-some b h)
entry_base (e ∷ es) zero b h = elim (cases_Bool (same_base b e.0)) [
  | inl is ↦ rw is refl
  | inr other ↦ absurd (both_ways (same_base b e.0) other (subst (λ c. same_base b c ≡ true) (sym (same_Some e.0 b h)) (base_same b)))
]
entry_base (e ∷ es) (suc k) b h = elim (cases_Bool (same_base b e.0)) [ inl is ↦ rw is refl | inr other ↦ rw other (entry_base es k b h) ]

-- a byte that was found is of a base that is there
pub byte_base : (o : Option Found) (p : ℕ) → is_some (byte_at o p) ≡ true → is_some o ≡ true
byte_base None p h = absurd (false≢true h)
byte_base (Some e) p h = refl
