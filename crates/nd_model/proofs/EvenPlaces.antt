-- The numbers that the places give lead to all tuples where any do.
use Rattle.std.proofs.Common.{◌≡◌, ℕ, suc, ◌+◌, ◌*◌, ◌<◌, Bool, true, false, ℤ, List, [], ◌∷◌, length, refl, sym, ap, ◌∙◌, inl, inr, arith}
use Rattle.std.specs.Prelude.{pos, neg_ℤ, ◌+ℤ◌, ◌*ℤ◌, nat_lt, slice_index, if◌then◌else◌}
use Rattle.std.specs.List.{list_all}
use Rattle.std.specs.Ordering.{int_eq}
use Rattle.std.proofs.Math.IntN.{zero-*ℤ, +ℤ_idl, +ℤ_idr}
use Rattle.std.proofs.lemmas.Bool.{cases_Bool}
use Rattle.std.proofs.lemmas.Bool.Decides.{Decides-int_eq, nat_tests}
use Rattle.std.proofs.lemmas.Int.{ints}
use Rattle.std.proofs.lemmas.List.Elements.{All-weaker}
use Rattle.std.proofs.lemmas.List.Sums.{list_all-from_AllPass}
use Rattle.nd_model.specs.Arrays.Tuple.{elements_of, indices, number}
use Rattle.nd_model.specs.Arrays.Strides.{way_to, begins_at}
use Rattle.nd_model.specs.Indexing.Reshaping.{distance, steps_in, is_even, LeadsTo, EvenPlaces}
use Rattle.nd_model.proofs.Tuples.{IsTuple, all_tuples}
use Rattle.nd_model.proofs.Recast.{at_each}

-- the tuple of zeros
zeros : List ℕ → List ℕ
zeros [] = []
zeros (n ∷ shape) = 0 ∷ zeros shape

zeros_are : (shape t : List ℕ) → IsTuple shape t → IsTuple shape (zeros shape)
unfolding zeros
zeros_are [] t is = tt
zeros_are (n ∷ shape) [] is = absurd is
zeros_are (n ∷ shape) (i ∷ t) is = (omega (arith, is.0), zeros_are shape t is.1)

number-zeros : (shape : List ℕ) → number shape (zeros shape) ≡ 0
unfolding zeros
number-zeros [] = refl
number-zeros (n ∷ shape) = omega (arith, number-zeros shape)

way-zeros : (shape : List ℕ) (steps : List ℤ) → way_to (zeros shape) steps ≡ pos 0
unfolding zeros
way-zeros [] steps = refl
way-zeros (n ∷ shape) [] = refl
way-zeros (n ∷ shape) (s ∷ steps) = ap (λ z. z +ℤ way_to (zeros shape) steps) (zero-*ℤ s) ∙ +ℤ_idl (way_to (zeros shape) steps) ∙ way-zeros shape steps

length-steps_in : (places shape : List ℕ) → length (steps_in places shape) ≡ length shape
length-steps_in places [] = refl
length-steps_in places (n ∷ shape) = ap suc (length-steps_in places shape)

module _ (places : List ℕ) (start : ℤ) where
  -- the numbers lead to the tuples of a shape, one by one
  abbrev Lead : List ℕ → List ℤ → Type 0
  Lead shape steps = (t : List ℕ) → IsTuple shape t → pos (slice_index places (number shape t)) ≡ start +ℤ way_to t steps

  -- those on the axes behind the first one do, where that has an index
  behind : (n : ℕ) (shape : List ℕ) (s : ℤ) (steps : List ℤ) → 0 < n → Lead (n ∷ shape) (s ∷ steps) → Lead shape steps
  behind n shape s steps some lead t is =
      let same : 0 * elements_of shape + number shape t ≡ number shape t = omega arith in
      ap (λ k. pos (slice_index places k)) (sym same) ∙ lead (0 ∷ t) (some, is) ∙ ap (λ z. start +ℤ z) (ap (λ z. z +ℤ way_to t steps) (zero-*ℤ s) ∙ +ℤ_idl (way_to t steps))

  -- the start is the place of the tuple of zeros
  start_is : (shape t : List ℕ) (steps : List ℤ) → IsTuple shape t → Lead shape steps → pos (slice_index places 0) ≡ start
  start_is shape t steps is lead =
      ap (λ k. pos (slice_index places k)) (sym (number-zeros shape)) ∙ lead (zeros shape) (zeros_are shape t is) ∙ ap (λ z. start +ℤ z) (way-zeros shape steps) ∙ +ℤ_idr start

  -- a number is the distance to the tuple that is 1 on its axis alone
  step_is : (n : ℕ) (shape t : List ℕ) (s : ℤ) (steps : List ℤ) → 1 < n → IsTuple shape t → Lead (n ∷ shape) (s ∷ steps) → distance places (elements_of shape) ≡ s
  step_is n shape t s steps more is lead =
      let at : 1 * elements_of shape + number shape (zeros shape) ≡ elements_of shape = omega (arith, number-zeros shape) in
      let first : pos (slice_index places 0) ≡ start = start_is shape t steps is (behind n shape s steps (omega (arith, more)) lead) in
      let second : pos (slice_index places (1 * elements_of shape + number shape (zeros shape))) ≡ start +ℤ ((pos 1 *ℤ s) +ℤ way_to (zeros shape) steps) = lead (1 ∷ zeros shape) (more, zeros_are shape t is) in
      between _ _ start s _ (ap (λ k. pos (slice_index places k)) (sym at) ∙ second) first (way-zeros shape steps)
    where
      between : (p q start s w : ℤ) → p ≡ start +ℤ ((pos 1 *ℤ s) +ℤ w) → q ≡ start → w ≡ pos 0 → p +ℤ neg_ℤ q ≡ s
      between p q start s w e f g = omega (arith, ints)

  -- the numbers that the places give lead the same way, at each tuple
  same_way : (shape t : List ℕ) (steps : List ℤ) → length steps ≡ length shape → IsTuple shape t → Lead shape steps → way_to t (steps_in places shape) ≡ way_to t steps
  same_way [] [] steps long is lead = refl
  same_way [] (i ∷ t) steps long is lead = absurd is
  same_way (n ∷ shape) [] steps long is lead = absurd is
  same_way (n ∷ shape) (i ∷ t) [] long is lead = absurd (omega (arith, long))
  same_way (n ∷ shape) (i ∷ t) (s ∷ steps) long is lead =
      let rest = same_way shape t steps (omega (arith, long)) is.1 (behind n shape s steps (omega (arith, is.0)) lead) in
      (λ j. on_axis j +ℤ rest j)
    where
      on_axis : pos i *ℤ (if nat_lt n 2 then pos 0 else distance places (elements_of shape)) ≡ pos i *ℤ s
      on_axis = elim (cases_Bool (nat_lt n 2)) [
        | inl short ↦ let none : i ≡ 0 = below_one i n is.0 short in rw none (zero-*ℤ (if nat_lt n 2 then pos 0 else distance places (elements_of shape)) ∙ sym (zero-*ℤ s))
        | inr long ↦ rw long (ap (λ z. pos i *ℤ z) (step_is n shape t s steps (two n long) is.1 lead))
      ]
        where
          below_one : (i n : ℕ) → i < n → nat_lt n 2 ≡ true → i ≡ 0
          below_one i n lt short = grind (arith, nat_tests)

          two : (n : ℕ) → nat_lt n 2 ≡ false → 1 < n
          two n long = grind (arith, nat_tests)

-- they lead to this tuple
abbrev leads_here : (shape places : List ℕ) → ℤ → List ℤ → List ℕ → Bool
leads_here shape places start steps t = int_eq (pos (slice_index places (number shape t))) (start +ℤ way_to t steps)

-- numbers that lead to all tuples lead to each
lead_each : (shape places : List ℕ) (start : ℤ) (steps : List ℤ) → LeadsTo shape places start steps → Lead places start shape steps
lead_each shape places start steps leads t is =
    let all : list_all (leads_here shape places start steps) (indices shape) ≡ true = list_all-from_AllPass (leads_here shape places start steps) (indices shape) (λ k d lt. (Decides-int_eq _ _).1 (leads.1 k d lt)) in
    (Decides-int_eq _ _).0 (at_each (leads_here shape places start steps) shape t all is)

pub even_places : EvenPlaces
even_places shape places = (there, found)
  where
    there : is_even shape places ≡ true → (start : ℤ) × (steps : List ℤ) × LeadsTo shape places start steps
    there even = (
      pos (slice_index places 0),
      steps_in places shape,
      (
        length-steps_in places shape,
        All-weaker (IsTuple shape) (λ t. pos (slice_index places (number shape t)) ≡ begins_at (slice_index places 0) (steps_in places shape) t) (λ t is. (Decides-int_eq _ _).0 (at_each (leads_here shape places (pos (slice_index places 0)) (steps_in places shape)) shape t even is)) (indices shape) (all_tuples shape),
      ),
    )

    found : ((start : ℤ) × (steps : List ℤ) × LeadsTo shape places start steps) → is_even shape places ≡ true
    found leads =
        let lead : Lead places leads.0 shape leads.1 = lead_each shape places leads.0 leads.1 leads.2 in
        let same = λ (t : List ℕ) (is : IsTuple shape t). lead t is ∙ (λ i. sym (start_is places leads.0 shape t leads.1 is lead) i +ℤ sym (same_way places leads.0 shape t leads.1 leads.2.0 is lead) i) in
        let test : List ℕ → Bool = leads_here shape places (pos (slice_index places 0)) (steps_in places shape) in
        list_all-from_AllPass test (indices shape) (All-weaker (IsTuple shape) (λ t. test t ≡ true) (λ t is. (Decides-int_eq _ _).1 (same t is)) (indices shape) (all_tuples shape))
