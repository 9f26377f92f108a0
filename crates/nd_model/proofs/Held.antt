-- A base that no name held at first is held at the end only by a name that was bound since.
use Rattle.std.proofs.Common.{◌≡◌, ℕ, Bool, true, false, cond, ◌&&◌, ◌||◌, List, [], ◌∷◌, Option, Some, None, refl, sym, ap, ◌∙◌, inl, inr}
use Rattle.std.specs.Prelude.{bytes_eq}
use Rattle.std.proofs.lemmas.Bool.{cases_Bool, or_left, or_right, or_cases, or_parts, or_from, and_from}
use Rattle.nd_model.specs.Arrays.Value.{Base, Value, lies_in}
use Rattle.nd_model.specs.Cells.Session.{Names, lookup, bind, unbind, is_held}
use Rattle.nd_model.specs.Cells.Running.{Event, Binds, Unbinds}
use Rattle.nd_model.specs.Cells.Footprint.{replayed}
use Rattle.nd_model.proofs.Lists.{same_bytes, bytes_eq_self, bytes_eq_apart, not_both, lookup-bind, lookup-unbind}

module _ (b : Base) where
  -- what was found lies in the base
  abbrev found_in : Option Value → Bool
  found_in None = false
  found_in (Some v) = lies_in b v

  -- some entry of the name lies in the base
  abbrev holds : List ℕ → Names → Bool
  holds n [] = false
  holds n (e ∷ es) = (bytes_eq n e.0 && lies_in b e.1) || holds n es

  -- some entry of the name that is not its first one
  abbrev holds_later : List ℕ → Names → Bool
  holds_later n [] = false
  holds_later n (e ∷ es) = cond (bytes_eq n e.0) (holds n es) (holds_later n es)

  not_held : (n : List ℕ) (es : Names) → is_held b es ≡ false → holds n es ≡ false
  not_held n [] h = refl
  not_held n (e ∷ es) h = let parts : (lies_in b e.1 ≡ false) × (is_held b es ≡ false) = or_parts _ _ h in
      or_from (bytes_eq n e.0 && lies_in b e.1) (holds n es) (rw (parts.0) (elim (bytes_eq n e.0) as (λ t. (t && false) ≡ false) [ true ↦ refl | false ↦ refl ])) (not_held n es parts.1)

  not_later : (n : List ℕ) (es : Names) → is_held b es ≡ false → holds_later n es ≡ false
  not_later n [] h = refl
  not_later n (e ∷ es) h = let parts : (lies_in b e.1 ≡ false) × (is_held b es ≡ false) = or_parts _ _ h in
      elim (cases_Bool (bytes_eq n e.0)) [ inl is ↦ rw is (not_held n es parts.1) | inr other ↦ rw other (not_later n es parts.1) ]

  not_found : (n : List ℕ) (es : Names) → is_held b es ≡ false → found_in (lookup n es) ≡ false
  not_found n [] h = refl
  not_found n (e ∷ es) h = let parts : (lies_in b e.1 ≡ false) × (is_held b es ≡ false) = or_parts _ _ h in
      elim (cases_Bool (bytes_eq n e.0)) [ inl is ↦ rw is parts.0 | inr other ↦ rw other (not_found n es parts.1) ]

  -- what is found lies in a base that is held
  found_held : (n : List ℕ) (es : Names) → found_in (lookup n es) ≡ true → is_held b es ≡ true
  found_held n es h = elim (cases_Bool (is_held b es)) [ inl held ↦ held | inr not ↦ absurd (not_both _ (not_found n es not) h) ]

  -- a base that is held is held under some name
  held_by : (es : Names) → is_held b es ≡ true → (n : List ℕ) × (holds n es ≡ true)
  held_by [] h = absurd (cc)
  held_by (e ∷ es) h = elim (or_cases _ _ h) [
    | inl here ↦ (e.0, or_left _ _ (and_from _ _ (bytes_eq_self e.0) here))
    | inr there ↦ let more : (n : List ℕ) × (holds n es ≡ true) = held_by es there in (more.0, or_right _ _ more.1)
  ]

  -- by its first entry, where no later one does
  first_holds : (n : List ℕ) (es : Names) → holds_later n es ≡ false → holds n es ≡ true → found_in (lookup n es) ≡ true
  first_holds n [] l h = h
  first_holds n (e ∷ es) l h = elim (cases_Bool (bytes_eq n e.0)) [
    | inl is ↦ let none : holds n es ≡ false = rw is at l in rw is (here n e es is none h)
    | inr other ↦ let none : holds_later n es ≡ false = rw other at l in rw other (first_holds n es none (rw other at h))
  ]
    where
      now : (t l : Bool) → t ≡ true → (t && l) ≡ true → l ≡ true
      now true l is h = h
      now false l is h = absurd (cc)

      here : (n : List ℕ) (e : List ℕ × Value) (es : Names) → bytes_eq n e.0 ≡ true → holds n es ≡ false → holds n (e ∷ es) ≡ true → lies_in b e.1 ≡ true
      here n e es is none h = elim (or_cases (bytes_eq n e.0 && lies_in b e.1) (holds n es) h) [ inl first ↦ now (bytes_eq n e.0) (lies_in b e.1) is first | inr there ↦ absurd (not_both _ none there) ]

  later-bind : (n m : List ℕ) (v : Value) (es : Names) → holds_later n es ≡ false → holds_later n (bind m v es) ≡ false
  later-bind n m v [] h = elim (bytes_eq n m) as (λ t. cond t false false ≡ false) [ true ↦ refl | false ↦ refl ]
  later-bind n m v (e ∷ es) h = elim (cases_Bool (bytes_eq m e.0)) [
    | inl is ↦ rw is h
    | inr apart ↦ rw apart (elim (cases_Bool (bytes_eq n e.0)) [
      | inl is ↦ let none : holds n es ≡ false = rw is at h in
          let other : bytes_eq n m ≡ false = bytes_eq_apart n m e.0 apart is in
          rw is (bind_elsewhere n m v es other none)
      | inr other ↦ rw other (later-bind n m v es (rw other at h))
    ])
  ]
    where
      bind_elsewhere : (n m : List ℕ) (v : Value) (es : Names) → bytes_eq n m ≡ false → holds n es ≡ false → holds n (bind m v es) ≡ false
      bind_elsewhere n m v [] other h = rw other refl
      bind_elsewhere n m v (e ∷ es) other h = let parts : ((bytes_eq n e.0 && lies_in b e.1) ≡ false) × (holds n es ≡ false) = or_parts _ _ h in
          elim (cases_Bool (bytes_eq m e.0)) [
            | inl is ↦ let far : bytes_eq n e.0 ≡ false = ap (bytes_eq n) (sym (same_bytes m e.0 is)) ∙ other in rw (is, far) parts.1
            | inr apart ↦ rw apart (or_from _ _ parts.0 (bind_elsewhere n m v es other parts.1))
          ]

  unbound : (n m : List ℕ) (es : Names) → holds n es ≡ false → holds n (unbind m es) ≡ false
  unbound n m [] h = refl
  unbound n m (e ∷ es) h = let parts : ((bytes_eq n e.0 && lies_in b e.1) ≡ false) × (holds n es ≡ false) = or_parts _ _ h in
      elim (cases_Bool (bytes_eq m e.0)) [
        | inl is ↦ rw is (unbound n m es parts.1)
        | inr apart ↦ rw apart (or_from _ _ parts.0 (unbound n m es parts.1))
      ]

  later-unbind : (n m : List ℕ) (es : Names) → holds_later n es ≡ false → holds_later n (unbind m es) ≡ false
  later-unbind n m [] h = refl
  later-unbind n m (e ∷ es) h = elim (cases_Bool (bytes_eq m e.0)) [
    | inl is ↦ rw is (elim (cases_Bool (bytes_eq n e.0)) [
      | inl same ↦ gone n m es (ap (bytes_eq n) (same_bytes m e.0 is) ∙ same)
      | inr other ↦ later-unbind n m es (rw other at h)
    ])
    | inr apart ↦ rw apart (elim (cases_Bool (bytes_eq n e.0)) [
      | inl same ↦ rw same (unbound n m es (rw same at h))
      | inr other ↦ rw other (later-unbind n m es (rw other at h))
    ])
  ]
    where
      gone : (n m : List ℕ) (es : Names) → bytes_eq n m ≡ true → holds_later n (unbind m es) ≡ false
      gone n m [] same = refl
      gone n m (e ∷ es) same = elim (cases_Bool (bytes_eq m e.0)) [
        | inl is ↦ rw is (gone n m es same)
        | inr apart ↦ let other : bytes_eq n e.0 ≡ false = ap (λ k. bytes_eq k e.0) (same_bytes n m same) ∙ apart in rw (apart, other) (gone n m es same)
      ]

  -- no name has the base but by its first entry, and where that is in the base the other has it too
  record Follows (names own : Names) : Type 0 where
    later : (n : List ℕ) → holds_later n names ≡ false
    found : (n : List ℕ) → found_in (lookup n names) ≡ true → found_in (lookup n own) ≡ true

  same_answer : (t : Bool) (v x y : Option Value) → (found_in x ≡ true → found_in y ≡ true) → found_in (cond t v x) ≡ true → found_in (cond t v y) ≡ true
  same_answer true v x y h f = f
  same_answer false v x y h f = h f

  follows_all : (es : List Event) (names own : Names) → Follows names own → Follows (replayed es names) (replayed es own)
  follows_all [] names own f = f
  follows_all (Binds m v ∷ es) names own f = follows_all es (bind m v names) (bind m v own) (record {
    later = λ n. later-bind n m v names (f.later n);
    found = λ n h. ap found_in (lookup-bind n m v own) ∙ same_answer (bytes_eq n m) (Some v) (lookup n names) (lookup n own) (f.found n) (ap found_in (sym (lookup-bind n m v names)) ∙ h);
  })
  follows_all (Unbinds m ∷ es) names own f = follows_all es (unbind m names) (unbind m own) (record {
    later = λ n. later-unbind n m names (f.later n);
    found = λ n h. ap found_in (lookup-unbind n m own) ∙ same_answer (bytes_eq n m) None (lookup n names) (lookup n own) (f.found n) (ap found_in (sym (lookup-unbind n m names)) ∙ h);
  })

  pub held_by_own : (es : List Event) (names : Names) → is_held b names ≡ false → is_held b (replayed es names) ≡ true → is_held b (replayed es []) ≡ true
  held_by_own es names none h =
      let f : Follows (replayed es names) (replayed es []) = follows_all es names [] (record { later = λ n. not_later n names none; found = λ n h. absurd (not_both _ (not_found n names none) h) }) in
      let by : (n : List ℕ) × (holds n (replayed es names) ≡ true) = held_by (replayed es names) h in
      found_held by.0 (replayed es []) (f.found by.0 (first_holds by.0 (replayed es names) (f.later by.0) by.1))
