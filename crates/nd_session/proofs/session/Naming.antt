-- Names by what they find.
use Rattle.std.proofs.Common.{◌≡◌, ℕ, true, false, cond, bytes_eq, List, [], ◌∷◌, Option, Some, None, sym, ap, subst, ◌∙◌, inl, inr}
use Rattle.std.proofs.lemmas.Bool.{cases_Bool, or_cases, or_left, or_right}
use Rattle.nd_model.specs.Arrays.View.{Geo}
use Rattle.nd_model.specs.Arrays.Value.{Base, Value, Int, Truth, Scalar, Array, Row, lies_in}
use Rattle.nd_model.specs.Book.Sessions.{IsOnce}
use Rattle.nd_model.specs.Cells.Session.{Names, lookup, is_held}
use Rattle.nd_model.specs.Cells.Sound.{IsViewOf, AreViewsOf}
use Rattle.nd_heap.proofs.Plain.{none_some, some_same, false_true}
use Rattle.nd_heap.proofs.Same.{base_same, bytes_same, same_bytes}

abbrev pub Entry : Type 0
Entry = List ℕ × Value

-- what is found is found behind a name that differs
pub found_rest : (n : List ℕ) (e : Entry) (es : Names) (o : Option Value) → bytes_eq n e.0 ≡ false → lookup n (e ∷ es) ≡ o → lookup n es ≡ o
found_rest n e es o other at = sym (ap (λ t. cond t (Some e.1) (lookup n es)) other) ∙ at

-- a name that is found behind others is none of these, where no name stands twice
pub apart_from : (n : List ℕ) (v : Value) (e : Entry) (es : Names) → lookup e.0 es ≡ None → lookup n es ≡ Some v → bytes_eq n e.0 ≡ false
apart_from n v e es lacks at = elim (cases_Bool (bytes_eq n e.0)) [
  | inl is ↦ none_some v (sym lacks ∙ ap (λ m. lookup m es) (sym (same_bytes n e.0 is)) ∙ at)
  | inr other ↦ other
]

pub found_later : (n : List ℕ) (v : Value) (e : Entry) (es : Names) → lookup e.0 es ≡ None → lookup n es ≡ Some v → lookup n (e ∷ es) ≡ Some v
found_later n v e es lacks at = ap (λ t. cond t (Some e.1) (lookup n es)) (apart_from n v e es lacks at) ∙ at

-- ---- bases

pub held_by : (b : Base) (n : List ℕ) (v : Value) (es : Names) → lookup n es ≡ Some v → lies_in b v ≡ true → is_held b es ≡ true
held_by b n v [] at lies = none_some v at
held_by b n v (e ∷ es) at lies = elim (cases_Bool (bytes_eq n e.0)) [
  | inl is ↦ or_left _ _ (ap (lies_in b) (some_same e.1 v (sym (ap (λ t. cond t (Some e.1) (lookup n es)) is) ∙ at)) ∙ lies)
  | inr other ↦ or_right _ _ (held_by b n v es (found_rest n e es (Some v) other at) lies)
]

-- a base that is held is held by a name that finds it
pub record Holder (b : Base) (es : Names) : Type 0 where
  pub name : List ℕ
  pub value : Value
  pub found : lookup name es ≡ Some value
  pub lies : lies_in b value ≡ true

pub holder : (b : Base) (es : Names) → IsOnce es → is_held b es ≡ true → Holder b es
holder b [] once held = false_true held
holder b (e ∷ es) once held = elim (or_cases _ _ held) [
  | inl here ↦ record { name = e.0; value = e.1; found = ap (λ t. cond t (Some e.1) (lookup e.0 es)) (bytes_same e.0); lies = here }
  | inr there ↦
      let more = holder b es once.1 there in
      record { name = more.name; value = more.value; found = found_later more.name more.value e es once.0 more.found; lies = more.lies }
]

-- ---- views

module _ (P : Base → Geo → Type 0) where
  pub view_at : (n : List ℕ) (v : Value) (es : Names) → AreViewsOf P es → lookup n es ≡ Some v → IsViewOf P v
  view_at n v [] h at = none_some v at
  view_at n v (e ∷ es) h at = elim (cases_Bool (bytes_eq n e.0)) [
    | inl is ↦ subst (IsViewOf P) (some_same e.1 v (sym (ap (λ t. cond t (Some e.1) (lookup n es)) is) ∙ at)) h.0
    | inr other ↦ view_at n v es h.1 (found_rest n e es (Some v) other at)
  ]

  -- what is true of each value that is found is true of all
  pub views_from : (es : Names) → IsOnce es → ((n : List ℕ) (v : Value) → lookup n es ≡ Some v → IsViewOf P v) → AreViewsOf P es
  views_from [] once h = tt
  views_from (e ∷ es) once h = (
    h e.0 e.1 (ap (λ t. cond t (Some e.1) (lookup e.0 es)) (bytes_same e.0)),
    views_from es once.1 (λ n v at. h n v (found_later n v e es once.0 at)),
  )

-- of a value that lies in a base
pub view_map : (P Q : Base → Geo → Type 0) (v : Value) → ((b : Base) (g : Geo) → lies_in b v ≡ true → P b g → Q b g) → IsViewOf P v → IsViewOf Q v
view_map P Q (Int z) f h = tt
view_map P Q (Truth t) f h = tt
view_map P Q (Scalar k z) f h = tt
view_map P Q (Array b g) f h = f b g (base_same b) h
view_map P Q (Row b g) f h = f b g (base_same b) h
