-- Whether a run bound or unbound a name, by what it last did to it.
use Rattle.std.proofs.Common.{◌≡◌, ℕ, Bool, true, false, ◌||◌, bytes_eq, IsTrue, ◌↔◌, List, [], ◌∷◌, Option, Some, None, is_some, unwrap_or, refl, sym, ap, ◌∙◌, inl, inr}
use Rattle.std.proofs.lemmas.Bool.{cases_Bool, both_ways, cond-true, false≢true, true≢false, or_cases}
use Rattle.nd_model.specs.Arrays.Value.{Truth}
use Rattle.nd_model.specs.Cells.Session.{Names, lookup, bind, unbind}
use Rattle.nd_model.specs.Cells.Running.{Event, Binds, Unbinds, is_touched}
use Rattle.nd_model.specs.Cells.Footprint.{replayed}
use Rattle.nd_model.proofs.Lists.{lookup-bind, lookup-unbind}
use Rattle.nd_model.proofs.Sessions.{untouched_lookup}
use Rattle.nd_heap.proofs.Same.{bytes_same}
use Rattle.nd_session.specs.Session.Changes.{is_bound}

first_is : (first rest : Bool) → (first || rest) ≡ true → rest ≡ false → first ≡ true
first_is first rest h other = elim (or_cases first rest h) [ inl is ↦ is | inr is ↦ absurd (both_ways rest other is) ]

-- a name that events touch stands after them as they leave it, over all names
touched : (n : List ℕ) (es : List Event) (ns ms : Names) → is_touched n es ≡ true → lookup n (replayed es ns) ≡ lookup n (replayed es ms)
touched n [] ns ms h = absurd (false≢true h)
touched n (Binds m v ∷ es) ns ms h = elim (cases_Bool (is_touched n es)) [
  | inl later ↦ touched n es (bind m v ns) (bind m v ms) later
  | inr last ↦
      let is = first_is (bytes_eq n m) (is_touched n es) h last in
      untouched_lookup n es (bind m v ns) last ∙ lookup-bind n m v ns ∙ cond-true (bytes_eq n m) (Some v) (lookup n ns) is
      ∙ sym (untouched_lookup n es (bind m v ms) last ∙ lookup-bind n m v ms ∙ cond-true (bytes_eq n m) (Some v) (lookup n ms) is)
]
touched n (Unbinds m ∷ es) ns ms h = elim (cases_Bool (is_touched n es)) [
  | inl later ↦ touched n es (unbind m ns) (unbind m ms) later
  | inr last ↦
      let is = first_is (bytes_eq n m) (is_touched n es) h last in
      untouched_lookup n es (unbind m ns) last ∙ lookup-unbind n m ns ∙ cond-true (bytes_eq n m) None (lookup n ns) is
      ∙ sym (untouched_lookup n es (unbind m ms) last ∙ lookup-unbind n m ms ∙ cond-true (bytes_eq n m) None (lookup n ms) is)
]

-- what a run last did to a name is told by names that have it and names that lack it
by_last : (n : List ℕ) (es : List Event) (ns ms : Names) (last : Option Bool) → is_bound n ns ≡ true → is_bound n ms ≡ false
    → ((names : Names) → is_bound n (replayed es names) ≡ unwrap_or last (is_bound n names)) → is_some last ≡ is_touched n es
by_last n es ns ms None has lacks h = elim (cases_Bool (is_touched n es)) [
  | inl there ↦ absurd (true≢false (sym has ∙ sym (h ns) ∙ ap is_some (touched n es ns ms there) ∙ h ms ∙ lacks))
  | inr none ↦ sym none
]
by_last n es ns ms (Some bound) has lacks h = elim (cases_Bool (is_touched n es)) [
  | inl there ↦ sym there
  | inr none ↦ absurd (true≢false (sym has ∙ sym (ap is_some (untouched_lookup n es ns none)) ∙ h ns ∙ sym (h ms) ∙ ap is_some (untouched_lookup n es ms none) ∙ lacks))
]

bound-one_name : (n : List ℕ) → is_bound n ((n, Truth true) ∷ []) ≡ true
bound-one_name n = let same = bytes_same n in rw same refl

pub sets_by : (n : List ℕ) (es : List Event) (last : Option Bool) (sets : Bool) → ((names : Names) → is_bound n (replayed es names) ≡ unwrap_or last (is_bound n names)) → sets ≡ is_some last
    → IsTrue sets ↔ IsTrue (is_touched n es)
sets_by n es last sets h is =
    let same : sets ≡ is_touched n es = is ∙ by_last n es ((n, Truth true) ∷ []) [] last (bound-one_name n) refl h in
    (λ s. sym same ∙ s, λ s. same ∙ s)
