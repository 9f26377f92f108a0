-- What is at the index tuples of a shape, in order.
use Rattle.std.proofs.Common.{◌≡◌, ℕ, zero, suc, ◌+◌, ◌-◌, ◌*◌, ◌<◌, ◌≤◌, Bool, true, false, List, [], ◌∷◌, ◌++◌, map, length, get_or, refl, sym, ap, ◌∙◌, arith}
use Rattle.std.specs.Prelude.{◌&&◌}
use Rattle.std.specs.List.{flat_map, list_all}
use Rattle.std.proofs.lemmas.List.{length-map, get_or_append_left, get_or-append_right}
use Rattle.std.proofs.lemmas.List.Folds.{list_all-append}
use Rattle.nd_model.specs.Arrays.Tuple.{count_up, elements_of, indices, number}
use Rattle.nd_view.specs.Indexes.{IsIndex}
use Rattle.nd_view.proofs.Steps.{number-below}
use Rattle.nd_view.proofs.Tuples.{numbers, length-count_up, map-map, map-flat_map, flat_map_same}

pub length-indices : (shape : List ℕ) → length (indices shape) ≡ elements_of shape
length-indices shape = sym (length-map (indices shape) (number shape)) ∙ ap length (numbers shape) ∙ length-count_up 0 (elements_of shape)

-- pieces of the same length, one behind another
at_piece : {X : Type 0} (g : ℕ → List X) (each : ℕ) → ((i : ℕ) → length (g i) ≡ each) → (from n i j : ℕ) (d : X) → i < n → j < each
    → get_or (flat_map g (count_up from n)) (i * each + j) d ≡ get_or (g (from + i)) j d
at_piece g each same from zero i j d lt inside = absurd (omega arith)
at_piece g each same from (suc n) zero j d lt inside =
    let e : 0 * each + j ≡ j = omega arith in let z : from + 0 ≡ from = omega arith in
    rw (e, z) (get_or_append_left (g from) (flat_map g (count_up (from + 1) n)) d j (omega (arith, same from)))
at_piece g each same from (suc n) (suc i) j d lt inside =
    let e : suc i * each + j ≡ length (g from) + (i * each + j) = omega (arith, same from) in let z : from + suc i ≡ (from + 1) + i = omega arith in
    let back : (length (g from) + (i * each + j)) - length (g from) ≡ i * each + j = omega arith in
    rw (e, z) (get_or-append_right (g from) (flat_map g (count_up (from + 1) n)) (length (g from)) (length (g from) + (i * each + j)) d refl (omega arith)
    ∙ ap (λ m. get_or (flat_map g (count_up (from + 1) n)) m d) back ∙ at_piece g each same (from + 1) n i j d (omega arith) inside)

-- what stands at the number of a tuple belongs to the tuple
pub at_index : {X : Type 0} (f : List ℕ → X) (shape t : List ℕ) (d : X) → IsIndex shape t → get_or (map f (indices shape)) (number shape t) d ≡ f t
at_index f [] [] d is = refl
at_index f [] (i ∷ t) d is = absurd is
at_index f (n ∷ shape) [] d is = absurd is
at_index f (n ∷ shape) (i ∷ t) d is =
    let row : ℕ → List _ = λ k. map (λ u. f (k ∷ u)) (indices shape) in
    let whole : map f (indices (n ∷ shape)) ≡ flat_map row (count_up 0 n)
    = map-flat_map f (λ k. map (λ u. k ∷ u) (indices shape)) (count_up 0 n) ∙ flat_map_same _ row (λ k. map-map f (λ u. k ∷ u) (indices shape)) (count_up 0 n) in
    let long : (k : ℕ) → length (row k) ≡ elements_of shape = λ k. length-map (indices shape) (λ u. f (k ∷ u)) ∙ length-indices shape in
    let here : 0 + i ≡ i = omega arith in
    rw whole (at_piece row (elements_of shape) long 0 n i (number shape t) d is.0 (number-below shape t is.1) ∙ ap (λ k. get_or (row k) (number shape t) d) here
    ∙ at_index (λ u. f (i ∷ u)) shape t d is.1)

module _ {X : Type 0} (p : X → Bool) where
  all_pieces : (g : ℕ → List X) (from n : ℕ) → ((i : ℕ) → from ≤ i → i < from + n → list_all p (g i) ≡ true) → list_all p (flat_map g (count_up from n)) ≡ true
  all_pieces g from zero each = refl
  all_pieces g from (suc n) each =
      rw (list_all-append p (g from) (flat_map g (count_up (from + 1) n)), each from (omega arith) (omega arith))
      (all_pieces g (from + 1) n (λ i le lt. each i (omega arith) (omega arith)))

  -- what is so at each tuple is so of all
  pub all_indexes : (f : List ℕ → X) (shape : List ℕ) → ((t : List ℕ) → IsIndex shape t → p (f t) ≡ true) → list_all p (map f (indices shape)) ≡ true
  all_indexes f [] each = rw (each [] tt) refl
  all_indexes f (n ∷ shape) each =
      let part : ℕ → List X = λ k. map (λ u. f (k ∷ u)) (indices shape) in
      let whole : map f (indices (n ∷ shape)) ≡ flat_map part (count_up 0 n)
      = map-flat_map f (λ k. map (λ u. k ∷ u) (indices shape)) (count_up 0 n) ∙ flat_map_same _ part (λ k. map-map f (λ u. k ∷ u) (indices shape)) (count_up 0 n) in
      rw whole (all_pieces part 0 n (λ i le lt. all_indexes (λ u. f (i ∷ u)) shape (λ t is. each (i ∷ t) (omega arith, is))))

  all_at : (xs : List X) (k : ℕ) (d : X) → list_all p xs ≡ true → k < length xs → p (get_or xs k d) ≡ true
  all_at [] k d e lt = absurd (omega arith)
  all_at (x ∷ xs) zero d e lt = elim (p x) as (λ b. (b && list_all p xs) ≡ true → b ≡ true) [ true ↦ λ e. refl | false ↦ λ e. e ] e
  all_at (x ∷ xs) (suc k) d e lt = all_at xs k d (elim (p x) as (λ b. (b && list_all p xs) ≡ true → list_all p xs ≡ true) [ true ↦ λ e. e | false ↦ λ e. cc ] e) (omega arith)

  -- what is so of all is so at each tuple
  pub of_all : (f : List ℕ → X) (shape t : List ℕ) → list_all p (map f (indices shape)) ≡ true → IsIndex shape t → p (f t) ≡ true
  of_all f shape t all is =
      let lt : number shape t < length (map f (indices shape)) = omega (arith, length-map (indices shape) f, length-indices shape, number-below shape t is) in
      rw (← at_index f shape t (f t) is) (all_at (map f (indices shape)) (number shape t) (f t) all lt)

pieces_same : {X : Type 0} (g h : ℕ → List X) (from n : ℕ) → ((i : ℕ) → from ≤ i → i < from + n → g i ≡ h i) → flat_map g (count_up from n) ≡ flat_map h (count_up from n)
pieces_same g h from zero same = refl
pieces_same g h from (suc n) same =
    (λ k. same from (omega arith) (omega arith) k ++ flat_map g (count_up (from + 1) n))
    ∙ ap (λ zs. h from ++ zs) (pieces_same g h (from + 1) n (λ i le lt. same i (omega arith) (omega arith)))

-- what is equal at each tuple is equal
pub same_indexes : {X : Type 0} (f g : List ℕ → X) (shape : List ℕ) → ((t : List ℕ) → IsIndex shape t → f t ≡ g t) → map f (indices shape) ≡ map g (indices shape)
same_indexes f g [] same = ap (λ x. x ∷ []) (same [] tt)
same_indexes {X} f g (n ∷ shape) same =
    let whole : (h : List ℕ → X) → map h (indices (n ∷ shape)) ≡ flat_map (λ k. map (λ u. h (k ∷ u)) (indices shape)) (count_up 0 n)
    = λ h. map-flat_map h (λ k. map (λ u. k ∷ u) (indices shape)) (count_up 0 n) ∙ flat_map_same _ (λ k. map (λ u. h (k ∷ u)) (indices shape)) (λ k. map-map h (λ u. k ∷ u) (indices shape)) (count_up 0 n) in
    whole f ∙ pieces_same (λ k. map (λ u. f (k ∷ u)) (indices shape)) (λ k. map (λ u. g (k ∷ u)) (indices shape)) 0 n
    (λ i le lt. same_indexes (λ u. f (i ∷ u)) (λ u. g (i ∷ u)) shape (λ t is. same (i ∷ t) (omega arith, is))) ∙ sym (whole g)
