-- The places of a view give back its offset and its strides.
use Rattle.std.proofs.Common.{◌≡◌, ℕ, zero, suc, ◌<◌, ◌^◌, List, [], ◌∷◌, length, replicate, get_or, refl, sym, ap, ◌∙◌, inl, inr, arith}
use Rattle.std.specs.Prelude.{ℤ, pos, ◌+ℤ◌, ◌*ℤ◌}
use Rattle.std.proofs.lemmas.Bool.{cases_lt}
use Rattle.std.proofs.lemmas.Int.{ints}
use Rattle.nd_model.specs.Arrays.Strides.{way_to, begins_at, place_at, places_by}
use Rattle.nd_model.specs.Arrays.Tuple.{elements_of, number}
use Rattle.nd_view.specs.Indexes.{IsIndex}
use Rattle.nd_view.specs.Strides.{kept, kept_all}
use Rattle.nd_view.proofs.Counts.{rest_some}
use Rattle.nd_view.proofs.Extents.{Lies, reached}
use Rattle.nd_view.proofs.Kept.{kept_short, kept_none}
use Rattle.nd_view.proofs.Numbered.{at_tuple}
use Rattle.nd_view.proofs.Split.{of_low}
use Rattle.nd_view.proofs.Steps.{zeros}

-- the tuples below the first index, and below the second
first_row : (z y s u w x : ℤ) → z +ℤ ((pos 0 *ℤ s) +ℤ w) ≡ y +ℤ ((pos 0 *ℤ u) +ℤ x) → z +ℤ w ≡ y +ℤ x
first_row z y s u w x e = omega (arith, ints, e)

second_row : (z y s u w x : ℤ) → z +ℤ ((pos 1 *ℤ s) +ℤ w) ≡ y +ℤ ((pos 1 *ℤ u) +ℤ x) → z +ℤ w ≡ y +ℤ x → s ≡ u
second_row z y s u w x e f = omega (arith, ints, e, f)

module _ (count : ℕ) (most : 0 < count) where
  pub strides_are : (shape : List ℕ) (strides others : List ℤ) (z y : ℤ) → 0 < elements_of shape → length strides ≡ length shape → length others ≡ length shape
      → ((t : List ℕ) → IsIndex shape t → z +ℤ way_to t strides ≡ y +ℤ way_to t others) → (z ≡ y) × (kept_all count shape strides ≡ kept_all count shape others)
  strides_are [] strides others z y some a b same = (omega (arith, ints, same [] tt), refl)
  strides_are (n ∷ shape) [] others z y some a b same = absurd (omega arith)
  strides_are (n ∷ shape) (s ∷ strides) [] z y some a b same = absurd (omega arith)
  strides_are (zero ∷ shape) (s ∷ strides) (u ∷ others) z y some a b same = absurd (omega arith)
  strides_are (suc n ∷ shape) (s ∷ strides) (u ∷ others) z y some a b same =
      let below : 0 < elements_of shape = rest_some (suc n) (elements_of shape) some in
      let rows : (t : List ℕ) → IsIndex shape t → z +ℤ way_to t strides ≡ y +ℤ way_to t others
      = λ t is. first_row z y s u (way_to t strides) (way_to t others) (same (0 ∷ t) (omega arith, is)) in
      let rest = strides_are shape strides others z y below (omega arith) (omega arith) rows in
      let step : kept count (suc n) s ≡ kept count (suc n) u = elim (cases_lt 1 (suc n)) [
        | inl long ↦ let t = replicate (length shape) 0 in let is : IsIndex shape t = (zeros shape below).0 in
            let equal : s ≡ u = second_row z y s u (way_to t strides) (way_to t others) (same (1 ∷ t) (long, is)) (rows t is) in ap (kept count (suc n)) equal
        | inr short ↦ kept_short count (suc n) s short ∙ sym (kept_short count (suc n) u short)
      ] in
      (rest.0, λ k. step k ∷ rest.1 k)

pub none_kept : (shape : List ℕ) (strides others : List ℤ) → length strides ≡ length shape → length others ≡ length shape → kept_all 0 shape strides ≡ kept_all 0 shape others
none_kept [] strides others a b = refl
none_kept (n ∷ shape) [] others a b = absurd (omega arith)
none_kept (n ∷ shape) (s ∷ strides) [] a b = absurd (omega arith)
none_kept (n ∷ shape) (s ∷ strides) (u ∷ others) a b = λ k. (kept_none n s ∙ sym (kept_none n u)) k ∷ none_kept shape strides others (omega arith) (omega arith) k

pos_same : (m n : ℕ) → pos m ≡ pos n → m ≡ n
pos_same m n e = omega (arith, ints, e)

-- the same places in the same order
pub parts_are : (size : ℕ) (shape : List ℕ) (strides others : List ℤ) (offset other : ℕ) → 0 < elements_of shape → length strides ≡ length shape → length others ≡ length shape
    → Lies size (2 ^ 64) shape strides offset → Lies size (2 ^ 64) shape others other → places_by offset strides shape ≡ places_by other others shape
    → (offset ≡ other) × (kept_all (elements_of shape) shape strides ≡ kept_all (elements_of shape) shape others)
parts_are size shape strides others offset other some a b lies lie same =
    let all = strides_are (elements_of shape) some shape strides others (pos offset) (pos other) some a b
    (λ t is.
    let here : place_at offset strides t ≡ place_at other others t
    = sym (at_tuple offset strides shape t is) ∙ ap (λ ps. get_or ps (number shape t) 0) same ∙ at_tuple other others shape t is in
    of_low (begins_at offset strides t) (reached size (2 ^ 64) shape t strides offset a is lies).0 ∙ ap pos here
    ∙ sym (of_low (begins_at other others t) (reached size (2 ^ 64) shape t others other b is lie).0)) in
    (pos_same offset other all.0, all.1)
