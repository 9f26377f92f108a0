-- Bytes that are copied from where others were put: of those at one place the last one stays, there and here.
use Rattle.std.proofs.Common.{◌≡◌, ◌≢◌, ◌⊎◌, inl, inr, ℕ, ◌+◌, ◌-◌, ◌<◌, ◌≤◌, true, List, [], ◌∷◌, map, length, get_or, set, sym, ap, ◌∙◌, subst, arith, length-set, get_or-set_same, get_or-set_other}
use Rattle.std.specs.Prelude.{nat_eq, slice_index}
use Rattle.std.specs.List.{zip}
use Rattle.std.proofs.lemmas.Bool.{cases_Bool, cases_eq, cases_lt, or_cases, eqb-true}
use Rattle.std.proofs.lemmas.Grind.{same_number_lists}
use Rattle.nd_model.specs.Arrays.Content.{Content, writes}
use Rattle.nd_model.specs.Cells.Session.{put, is_in}
use Rattle.nd_model.specs.Arrays.View.{ElementType, item_size, element_places}
use Rattle.nd_model.proofs.Lists.{length-put, put_elsewhere}
use Rattle.nd_view.proofs.Tuples.{map-map}
use Rattle.nd_assign.specs.HeldFields.{HoldsFields}
use Rattle.nd_scatter.specs.Scattered.{byte_copies}
use Rattle.nd_scatter.proofs.ByteWrites.{IsWhole, content_bytes, length-content, places_by, writes_by, in_element, none_before, none_there}

-- of a place in an element: it is one of these
later : (i o : ℕ) (os : List ℕ) → i ≢ o → is_in i (o ∷ os) ≡ true → is_in i os ≡ true
later i o os other is = elim (or_cases (nat_eq i o) (is_in i os) is) [ inl here ↦ absurd (other (eqb-true i o here)) | inr rest ↦ rest ]

module _ (p q i : ℕ) where
  apart : (b o : ℕ) → i ≢ o → b + i ≢ b + o
  apart b o other = λ e. other (omega (arith, e))

  -- the byte is copied, whatever was there
  own : (values os out : List ℕ) → p + i < length out → (is_in i os ≡ true) ⊎ (get_or out (p + i) 0 ≡ get_or values (q + i) 0)
      → get_or (put (zip (map (λ o. p + o) os) (map (λ o. get_or values (q + o) 0) os)) out) (p + i) 0 ≡ get_or values (q + i) 0
  own values [] out room some = elim some [ inl is ↦ absurd cc | inr e ↦ e ]
  own values (o ∷ os) out room some =
      let new : List ℕ = set out (p + o) (get_or values (q + o) 0) in
      let long : length new ≡ length out = length-set out (p + o) (get_or values (q + o) 0) in
      elim (cases_eq i o) [
        | inl e ↦ own values os new (omega (arith, room, long)) (inr (
            let here : get_or new (p + o) 0 ≡ get_or values (q + o) 0 = get_or-set_same out (p + o) (get_or values (q + o) 0) 0 (subst (λ j. p + j < length out) e room) in
            subst (λ j. get_or new (p + j) 0 ≡ get_or values (q + j) 0) (sym e) here))
        | inr other ↦
            let stays : get_or new (p + i) 0 ≡ get_or out (p + i) 0 = get_or-set_other out (p + o) (p + i) (get_or values (q + o) 0) 0 (apart p o other) in
            own values os new (omega (arith, room, long)) (elim some [ inl is ↦ inl (later i o os other is) | inr e ↦ inr (stays ∙ e) ])
      ]

  -- the same bytes are put here and there
  alike : (os bs out there : List ℕ) → length os ≡ length bs → p + i < length out → q + i < length there → (is_in i os ≡ true) ⊎ (get_or out (p + i) 0 ≡ get_or there (q + i) 0)
      → get_or (put (zip (map (λ o. p + o) os) bs) out) (p + i) 0 ≡ get_or (put (zip (map (λ o. q + o) os) bs) there) (q + i) 0
  alike [] bs out there same room inside some = elim some [ inl is ↦ absurd cc | inr e ↦ e ]
  alike (o ∷ os) [] out there same room inside some = absurd (omega (arith, same))
  alike (o ∷ os) (b ∷ bs) out there same room inside some =
      let new : List ℕ = set out (p + o) b in let other_new : List ℕ = set there (q + o) b in
      let long : length new ≡ length out = length-set out (p + o) b in let other_long : length other_new ≡ length there = length-set there (q + o) b in
      elim (cases_eq i o) [
        | inl e ↦ alike os bs new other_new (omega (arith, same)) (omega (arith, room, long)) (omega (arith, inside, other_long)) (inr (
            let here : get_or new (p + o) 0 ≡ b = get_or-set_same out (p + o) b 0 (subst (λ j. p + j < length out) e room) in
            let beside : get_or other_new (q + o) 0 ≡ b = get_or-set_same there (q + o) b 0 (subst (λ j. q + j < length there) e inside) in
            subst (λ j. get_or new (p + j) 0 ≡ get_or other_new (q + j) 0) (sym e) (here ∙ sym beside)))
        | inr other ↦
            let stays : get_or new (p + i) 0 ≡ get_or out (p + i) 0 = get_or-set_other out (p + o) (p + i) b 0 (apart p o other) in
            let remains : get_or other_new (q + i) 0 ≡ get_or there (q + i) 0 = get_or-set_other there (q + o) (q + i) b 0 (apart q o other) in
            alike os bs new other_new (omega (arith, same)) (omega (arith, room, long)) (omega (arith, inside, other_long))
            (elim some [ inl is ↦ inl (later i o os other is) | inr e ↦ inr (stays ∙ e ∙ sym remains) ])
      ]

-- The values have at a place what a content leaves there.
pub record Holds (t : ElementType) (values : List ℕ) (q : ℕ) (c : Content) : Type 0 where
  pub whole : IsWhole t c
  pub old : List ℕ
  pub room : q + item_size t ≤ length old
  pub same : (i : ℕ) → i < item_size t → get_or values (q + i) 0 ≡ get_or (put (writes t q c) old) (q + i) 0

module _ (t : ElementType) (c : Content) (values : List ℕ) (p q : ℕ) where
  abbrev os : List ℕ
  os = element_places t 0

  abbrev mine : List (ℕ × ℕ)
  mine = zip (map (λ o. p + o) os) (map (λ o. get_or values (q + o) 0) os)

  abbrev theirs : List (ℕ × ℕ)
  theirs = zip (map (λ o. p + o) os) (content_bytes t c)

  copies : byte_copies t values p q ≡ mine
  copies =
      (λ i. zip (places_by t p i) (map (slice_index values) (places_by t q i)))
      ∙ ap (zip (map (λ o. p + o) os)) (map-map (slice_index values) (λ o. q + o) os)

  module _ (out : List ℕ) (fields : HoldsFields t) (holds : Holds t values q c) (room : p + item_size t ≤ length out) where
    inside : (i : ℕ) → get_or (put mine out) (p + i) 0 ≡ get_or (put theirs out) (p + i) 0
    inside i = elim (cases_Bool (is_in i os)) [
      | inl is ↦
          let lt : i < item_size t = in_element t i fields is in
          let big = holds.room in
          own p q i values os out (omega (arith, room, lt)) (inl is)
          ∙ holds.same i lt ∙ ap (λ ws. get_or (put ws holds.old) (q + i) 0) (writes_by t q c holds.whole)
          ∙ sym (alike p q i os (content_bytes t c) out holds.old (sym (length-content t c holds.whole)) (omega (arith, room, lt)) (omega (arith, big, lt)) (inl is))
      | inr none ↦
          put_elsewhere mine (p + i) out (none_there p i os (map (λ o. get_or values (q + o) 0) os) none)
          ∙ sym (put_elsewhere theirs (p + i) out (none_there p i os (content_bytes t c) none))
    ]

    anywhere : (k : ℕ) → k < length (put mine out) → get_or (put mine out) k 0 ≡ get_or (put theirs out) k 0
    anywhere k lt = elim (cases_lt k p) [
      | inl before ↦
          put_elsewhere mine k out (none_before k p os (map (λ o. get_or values (q + o) 0) os) before)
          ∙ sym (put_elsewhere theirs k out (none_before k p os (content_bytes t c) before))
      | inr behind ↦
          let split : p + (k - p) ≡ k = omega arith in
          subst (λ j. get_or (put mine out) j 0 ≡ get_or (put theirs out) j 0) split (inside (k - p))
    ]

    -- a copy of the bytes that hold a content writes that content
    pub copied : put (byte_copies t values p q) out ≡ put (writes t p c) out
    copied =
        ap (λ ws. put ws out) copies
        ∙ same_number_lists (put mine out) (put theirs out) (length-put mine out ∙ sym (length-put theirs out)) anywhere
        ∙ ap (λ ws. put ws out) (sym (writes_by t p c holds.whole))
