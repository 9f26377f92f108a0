-- The view of another shape, by its strides.
use Rattle.std.proofs.Common.{◌≡◌, ℕ, ◌+◌, ◌<◌, ◌≤◌, ◌^◌, Bool, true, List, [], ◌∷◌, map, length, get_or, refl, sym, ap, ◌∙◌, inl, inr, arith}
use Rattle.std.specs.Prelude.{ℤ, pos, ◌+ℤ◌, None, unsigned_abs}
use Rattle.std.proofs.lemmas.Bool.{cases_Bool}
use Rattle.std.proofs.lemmas.Int.{ints}
use Rattle.nd_model.specs.Arrays.Strides.{begins_at, place_at, places_by, is_held, are_held, IsInLimits, parts_fault}
use Rattle.nd_model.specs.Arrays.Tuple.{count_up, elements_of, indices, number}
use Rattle.nd_model.specs.Arrays.View.{ElementType, Geo, item_size}
use Rattle.nd_model.specs.Indexing.Reshaping.{is_even}
use Rattle.nd_model.proofs.Transposed.{by_place}
use Rattle.nd_view.specs.Indexes.{IsIndex}
use Rattle.nd_view.proofs.Extents.{held_by}
use Rattle.nd_view.proofs.Indexed.{all_indexes, same_indexes}
use Rattle.nd_view.proofs.Kept.{no_places}
use Rattle.nd_view.proofs.Made.{axes, no_fault}
use Rattle.nd_view.proofs.Steps.{number-below}
use Rattle.nd_view.proofs.Tuples.{numbers, map-map, no_tuples}
use Rattle.nd_shape.specs.Reshapes.{way_of, steps_for, leads_to}
use Rattle.nd_shape.proofs.Fronts.{way_tuple, length-steps, leads_all, place_by, leads_even, even_leads}
use Rattle.nd_shape.proofs.Rearranged.{HasStrides}
use Rattle.nd_shape.proofs.Recasts.{lies_all, count_is}

-- ---- without elements

pub empty_fault : (size : ℕ) (shape : List ℕ) (steps : List ℤ) → IsInLimits size shape → length steps ≡ length shape → elements_of shape ≡ 0 → parts_fault size shape steps 0 (2 ^ 64) ≡ None
empty_fault size shape steps limits same none = no_fault size (2 ^ 64) 0 shape steps limits same (rw (no_tuples shape none) refl)

no_list : {A : Type 0} (xs : List A) → length xs ≡ 0 → xs ≡ []
no_list [] e = refl
no_list (x ∷ xs) e = absurd (omega arith)

pub empty_places : (shape : List ℕ) (steps : List ℤ) (places : List ℕ) → elements_of shape ≡ 0 → length places ≡ 0 → places_by 0 steps shape ≡ places
empty_places shape steps places none gone = no_places 0 steps shape none ∙ sym (no_list places gone)

-- no tuple, no test
pub empty_even : (shape places : List ℕ) → elements_of shape ≡ 0 → is_even shape places ≡ true
empty_even shape places none = rw (no_tuples shape none) refl

-- ---- with elements

module _ (g : Geo) (strides : List ℤ) (has : HasStrides g strides) (to : List ℕ) (many : elements_of to ≡ elements_of g.shape) (some : 0 < elements_of g.shape) where
  abbrev steps : List ℤ
  steps = steps_for (way_of g.shape strides) to

  length_same : length strides ≡ length g.shape
  length_same = axes (item_size g.element) g.shape strides (get_or g.places 0 0) (2 ^ 64) has.held

  -- the test of the strides is that of the places
  pub leads_is : leads_to g.shape strides to ≡ is_even to g.places
  leads_is = elim (cases_Bool (leads_to g.shape strides to)) [
    | inl is ↦ is ∙ sym (leads_even g strides has to many some is)
    | inr other ↦ elim (cases_Bool (is_even to g.places)) [
      | inl even ↦ even_leads g strides has to many some even ∙ sym even
      | inr uneven ↦ other ∙ sym uneven
    ]
  ]

  module _ (leads : leads_to g.shape strides to ≡ true) where
    begins : (t : List ℕ) → IsIndex to t → begins_at (get_or g.places 0 0) steps t ≡ pos (get_or g.places (number to t) 0)
    begins t is =
        let lt : number to t < elements_of g.shape = omega (arith, number-below to t is, many) in
        ap (λ w. pos (get_or g.places 0 0) +ℤ w) (way_tuple to t steps is ∙ sym (leads_all g.shape strides length_same to many some leads (number to t)))
        ∙ sym (place_by g strides has to many some (number to t) lt)

    within : (t : List ℕ) → IsIndex to t → get_or g.places (number to t) 0 + item_size g.element ≤ 2 ^ 64
    within t is = let lies = lies_all g strides has in lies.inside (number to t) 0 (omega (arith, number-below to t is, many, lies.count))

    reshaped_held : are_held (item_size g.element) (2 ^ 64) (get_or g.places 0 0) steps to ≡ true
    reshaped_held = all_indexes (is_held (item_size g.element) (2 ^ 64)) (begins_at (get_or g.places 0 0) steps) to
        (λ t is. rw (begins t is) (held_by (item_size g.element) (2 ^ 64) (pos (get_or g.places (number to t) 0)) (omega (arith, ints)) (within t is)))

    plain : (k : ℕ) → 0 + k ≡ k
    plain k = omega arith

    reshaped_places : places_by (get_or g.places 0 0) steps to ≡ g.places
    reshaped_places =
        let at : ℕ → ℕ = λ k. get_or g.places k 0 in
        same_indexes (place_at (get_or g.places 0 0) steps) (λ t. at (number to t)) to (λ t is. ap unsigned_abs (begins t is))
        ∙ sym (map-map at (number to) (indices to)) ∙ ap (map at) (numbers to)
        ∙ ap (λ n. map at (count_up 0 n)) (many ∙ sym (count_is g strides has))
        ∙ by_place 0 g.places at 0 (λ k lt. ap at (plain k))

    -- by what the code has of it
    module _ (t : ElementType) (lengths : List ℕ) (ss : List ℤ) (at : ℕ) (type_is : t ≡ g.element) (lengths_are : lengths ≡ to) (strides_are : ss ≡ steps) (at_is : at ≡ get_or g.places 0 0) where
      pub reshaped_fault : IsInLimits (item_size g.element) to → parts_fault (item_size t) lengths ss at (2 ^ 64) ≡ None
      reshaped_fault limits = (λ i. parts_fault (item_size (type_is i)) (lengths_are i) (strides_are i) (at_is i) (2 ^ 64))
          ∙ no_fault (item_size g.element) (2 ^ 64) (get_or g.places 0 0) to steps limits (length-steps (way_of g.shape strides) to) reshaped_held

      pub reshaped_is : (writable : Bool) → writable ≡ g.writable → ◌≡◌ {A = Geo} (record { element = t; shape = lengths; writable = writable; places = places_by at ss lengths }) (record g { shape = to })
      reshaped_is writable write =
          let places : places_by at ss lengths ≡ g.places = (λ i. places_by (at_is i) (strides_are i) (lengths_are i)) ∙ reshaped_places in
          λ i. record { element = type_is i; shape = lengths_are i; writable = write i; places = places i }
