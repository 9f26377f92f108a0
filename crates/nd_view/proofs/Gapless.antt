-- The places of an array without gaps.
use Rattle.std.proofs.Common.{◌≡◌, ℕ, zero, suc, ◌+◌, ◌*◌, ◌≤◌, ◌==◌, true, false, List, [], ◌∷◌, ◌++◌, map, refl, sym, ap, ◌∙◌, inl, inr, arith}
use Rattle.std.specs.Prelude.{ℤ, pos, ◌+ℤ◌, ◌*ℤ◌, unsigned_abs, nat_le}
use Rattle.std.proofs.lemmas.Bool.{cases_lt}
use Rattle.std.proofs.lemmas.Bool.Decides.{nat_tests}
use Rattle.std.proofs.lemmas.Int.{ints}
use Rattle.nd_model.specs.Arrays.Tuple.{count_up, elements_of, indices}
use Rattle.std.proofs.lemmas.List.{append-nil}
use Rattle.nd_model.specs.Arrays.Strides.{way_to, place_at, places_by}
use Rattle.nd_view.specs.Strides.{steps_of, strides_of}
use Rattle.nd_view.proofs.Tuples.{map-map, map-flat_map, map_same, flat_map_same, shifted, runs, no_tuples}

-- an axis moves all places below it
under : (off i s : ℕ) (strides : List ℤ) (t : List ℕ) → place_at off (pos s ∷ strides) (i ∷ t) ≡ place_at (off + i * s) strides t
under off i s strides t =
    let sum : pos off +ℤ ((pos i *ℤ pos s) +ℤ way_to t strides) ≡ pos (off + i * s) +ℤ way_to t strides = omega (arith, ints) in ap unsigned_abs sum

-- the places k * size, for the k below n, from `off` on
abbrev spread : ℕ → ℕ → ℕ → List ℕ
spread off size n = map (λ k. off + k * size) (count_up 0 n)

module _ (size : ℕ) (shape : List ℕ) (strides : List ℤ) where
  -- the axes below are without gaps
  abbrev Below : Type 0
  Below = (off : ℕ) → map (place_at off strides) (indices shape) ≡ spread off size (elements_of shape)

  abbrev each : ℕ
  each = elements_of shape

  spread-row : (off i : ℕ) → spread (off + i * (each * size)) size each ≡ map (λ k. off + k * size) (count_up (i * each) each)
  spread-row off i =
      map_same (λ k. off + i * (each * size) + k * size) (λ k. off + (i * each + k) * size) (λ k. omega arith) (count_up 0 each)
      ∙ sym (map-map (λ k. off + k * size) (λ k. i * each + k) (count_up 0 each))
      ∙ ap (map (λ k. off + k * size)) (shifted (i * each) 0 each ∙ ap (λ k. count_up k each) (omega arith))

  row : Below → (off i : ℕ) → map (place_at off (pos (each * size) ∷ strides)) (map (λ t. i ∷ t) (indices shape)) ≡ map (λ k. off + k * size) (count_up (i * each) each)
  row below off i =
      map-map (place_at off (pos (each * size) ∷ strides)) (λ t. i ∷ t) (indices shape)
      ∙ map_same _ (place_at (off + i * (each * size)) strides) (under off i (each * size) strides) (indices shape)
      ∙ below (off + i * (each * size)) ∙ spread-row off i

  one_more : Below → (off n : ℕ) → map (place_at off (pos (each * size) ∷ strides)) (indices (n ∷ shape)) ≡ spread off size (n * each)
  one_more below off n =
      map-flat_map (place_at off (pos (each * size) ∷ strides)) (λ i. map (λ t. i ∷ t) (indices shape)) (count_up 0 n)
      ∙ flat_map_same _ (λ i. map (λ k. off + k * size) (count_up (i * each) each)) (row below off) (count_up 0 n)
      ∙ sym (map-flat_map (λ k. off + k * size) (λ i. count_up (i * each) each) (count_up 0 n))
      ∙ ap (map (λ k. off + k * size)) (runs each 0 n ∙ ap (λ k. count_up k (n * each)) (omega arith))

  -- the stride of an axis that is not walked does not matter
  not_walked : (off s n : ℕ) → n ≤ 1 → map (place_at off (pos 0 ∷ strides)) (indices (n ∷ shape)) ≡ map (place_at off (pos s ∷ strides)) (indices (n ∷ shape))
  not_walked off s zero le = refl
  not_walked off s (suc zero) le =
      let first : List (List ℕ) = map (λ t. 0 ∷ t) (indices shape) in
      let same : map (place_at off (pos 0 ∷ strides)) first ≡ map (place_at off (pos s ∷ strides)) first =
      map-map (place_at off (pos 0 ∷ strides)) (λ t. 0 ∷ t) (indices shape)
      ∙ map_same (λ t. place_at off (pos 0 ∷ strides) (0 ∷ t)) (λ t. place_at off (pos s ∷ strides) (0 ∷ t)) (λ t. under off 0 0 strides t ∙ ap (λ k. place_at k strides t) (omega arith) ∙ sym (under off 0 s strides t)) (indices shape)
      ∙ sym (map-map (place_at off (pos s ∷ strides)) (λ t. 0 ∷ t) (indices shape)) in
      let none : first ++ [] ≡ first = append-nil first in
      rw none same
  not_walked off s (suc (suc n)) le = absurd (omega arith)

-- the steps of a shape put its elements one behind another
pub gapless : (size : ℕ) (shape : List ℕ) (off : ℕ) → map (place_at off (steps_of size shape)) (indices shape) ≡ spread off size (elements_of shape)
gapless size [] off = ap (λ k. k ∷ []) (omega arith)
gapless size (n ∷ shape) off =
    let whole : map (place_at off (pos (elements_of shape * size) ∷ steps_of size shape)) (indices (n ∷ shape)) ≡ spread off size (n * elements_of shape)
    = one_more size shape (steps_of size shape) (gapless size shape) off n in
    elim (cases_lt 1 n) [
      | inl walked ↦ let test : nat_le n 1 ≡ false = grind (arith, nat_tests) in rw test whole
      | inr not ↦ let test : nat_le n 1 ≡ true = grind (arith, nat_tests) in rw test (not_walked size shape (steps_of size shape) off (elements_of shape * size) n not ∙ whole)
    ]

-- the places of an array without gaps
pub places_by-strides_of : (size : ℕ) (shape : List ℕ) → places_by 0 (strides_of size shape) shape ≡ map (λ k. k * size) (count_up 0 (elements_of shape))
places_by-strides_of size shape =
    elim (cases_lt 0 (elements_of shape)) [
      | inl some ↦ let test : (elements_of shape == 0) ≡ false = grind (arith, nat_tests) in
          rw test (gapless size shape 0 ∙ map_same (λ k. 0 + k * size) (λ k. k * size) (λ k. omega arith) (count_up 0 (elements_of shape)))
      | inr none ↦ let zero_of : elements_of shape ≡ 0 = omega arith in
          rw (no_tuples shape zero_of, zero_of) refl
    ]
