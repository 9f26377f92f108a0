-- What an advanced index chooses of a view lies where the view lies.
use Rattle.std.proofs.Common.{◌≡◌, ℕ, zero, suc, ◌+◌, ◌-◌, ◌*◌, ◌/◌, ◌%◌, ◌<◌, ◌≤◌, Bool, true, false, cond, ℤ, List, [], ◌∷◌, ◌++◌, map, length, take, drop, reverse, replicate, get_or, Option, Some, None, Result, Ok, Err, refl, sym, ap, subst, ◌∙◌, arith, eqb-true, append-nil}
use Rattle.std.specs.Prelude.{◌==◌, nat_lt, nat_le, slice_index}
use Rattle.std.specs.List.{All}
use Rattle.std.proofs.Math.Nat.{mod-lt, div-lt_iff_lt-mul}
use Rattle.std.proofs.lemmas.Bool.Decides.{nat_tests}
use Rattle.std.proofs.lemmas.List.{length-map, length-take-le, length-drop, take-append-drop, take_at, drop_at, drop-drop, drop_more}
use Rattle.std.proofs.lemmas.List.Elements.{All-nil, All-cons, All-head, All-tail, All-map, All-weaker}
use Rattle.nd_model.specs.Arrays.Tuple.{count_up, elements_of, number}
use Rattle.nd_model.specs.Arrays.View.{Geo, item_size, rearranged_view}
use Rattle.nd_model.specs.Arrays.Strides.{limit_fault}
use Rattle.nd_model.specs.Cells.Fault.{Fault, IndexFault, OutOfBounds, MaskShape}
use Rattle.nd_model.specs.Cells.Refusing.{◌>>=◌}
use Rattle.nd_model.specs.Arrays.Broadcast.{broadcast, broadcasts_to, own_tuple}
use Rattle.nd_model.specs.Indexing.Slicing.{slice_positions, step_or}
use Rattle.nd_model.specs.Indexing.Selecting as selecting
use Rattle.nd_model.specs.Indexing.Selecting.{Item, At, Slice, Ellipsis, NewAxis, whole_slice, counted_from, is_within, filled_items, items_for, picks_of, picked_shape, picked_view, first_outside, select}
use Rattle.nd_model.specs.Indexing.Advanced.{IndexItem, Basic, Numbers, Mask, axes_of, axes_in, ellipses_of, ellipses_in, or_next, first_fault, mask_fault, shape_fault, number_fault, outside_fault, bounds_fault, unless_fault, true_numbers, common_shape, with_shape, slices_of, slices_in, unravelled, Take, Whole, Added, Spread, takes_of, takes_in, kept_shape, number_at, source, are_together, kept_before, place_for, chosen_shape, chosen_source, chosen_view, choose_filled, choose}
use Rattle.nd_model.specs.Cells.Sound.{LiesIn}
use Rattle.nd_model.specs.Indexing.Selected.{HoldsAll}
use Rattle.nd_model.proofs.Tuples.{length-count_up, IsTuple, number_below}
use Rattle.nd_model.proofs.Taking.{taking_within, narrowed_tuple}
use Rattle.nd_model.proofs.Selected.{counted_below, slices_axes, outside_ok, selected_lies}
use Rattle.nd_model.proofs.Transposed.{when_ok, ok_same}
use Rattle.nd_model.proofs.Stretched.{unless_ok}
use Rattle.nd_model.proofs.Joined.{fit, fit_itself, fit_through, fit_broadcast, broadcasts_by}

-- ---- tuples of axes one behind the other

tuple-append : (a b t u : List ℕ) → IsTuple a t → IsTuple b u → IsTuple (a ++ b) (t ++ u)
tuple-append [] b [] u h k = k
tuple-append [] b (i ∷ t) u h k = absurd h
tuple-append (n ∷ a) b [] u h k = absurd h
tuple-append (n ∷ a) b (i ∷ t) u h k = (h.0, tuple-append a b t u h.1 k)

tuple_front : (a b t : List ℕ) → IsTuple (a ++ b) t → IsTuple a (take (length a) t)
tuple_front [] b t h = tt
tuple_front (n ∷ a) b [] h = absurd h
tuple_front (n ∷ a) b (i ∷ t) h = (h.0, tuple_front a b t h.1)

tuple_back : (a b t : List ℕ) → IsTuple (a ++ b) t → IsTuple b (drop (length a) t)
tuple_back [] b t h = h
tuple_back (n ∷ a) b [] h = absurd h
tuple_back (n ∷ a) b (i ∷ t) h = tuple_back a b t h.1

-- a number below the elements of a shape has an index tuple
pub unravelled_tuple : (shape : List ℕ) (k : ℕ) → k < elements_of shape → IsTuple shape (unravelled shape k)
unravelled_tuple [] k lt = tt
unravelled_tuple (n ∷ shape) k lt =
    let some : 0 < elements_of shape = some_in n (elements_of shape) k lt in
    ((div-lt_iff_lt-mul some).1 lt, unravelled_tuple shape (k % elements_of shape) (mod-lt k some))
  where
    some_in : (n size k : ℕ) → k < n * size → 0 < size
    some_in n zero k lt = absurd (omega arith)
    some_in n (suc size) k lt = omega arith

-- ---- what is taken of axes with these lengths, for arrays of this common shape

abbrev pub AreTaken : List ℕ → List Take → List ℕ → Type 0
AreTaken many [] [] = Unit {0}
AreTaken many [] (n ∷ sizes) = ⊥
AreTaken many (Whole ∷ ts) [] = ⊥
AreTaken many (Whole ∷ ts) (n ∷ sizes) = AreTaken many ts sizes
AreTaken many (Added ∷ ts) sizes = AreTaken many ts sizes
AreTaken many (Spread axes shape ks ∷ ts) sizes = ((m : List ℕ) → IsTuple many m → number_at shape ks m < elements_of (take axes sizes)) × AreTaken many ts (drop axes sizes)

pub source_tuple : (many : List ℕ) (ts : List Take) (sizes m t : List ℕ) → AreTaken many ts sizes → IsTuple many m → IsTuple (kept_shape ts sizes) t → IsTuple sizes (source ts sizes m t)
source_tuple many [] [] m t f is h = tt
source_tuple many [] (n ∷ sizes) m t f is h = absurd f
source_tuple many (Whole ∷ ts) [] m t f is h = absurd f
source_tuple many (Whole ∷ ts) (n ∷ sizes) m [] f is h = absurd h
source_tuple many (Whole ∷ ts) (n ∷ sizes) m (i ∷ t) f is h = (h.0, source_tuple many ts sizes m t f is h.1)
source_tuple many (Added ∷ ts) sizes m [] f is h = absurd h
source_tuple many (Added ∷ ts) sizes m (i ∷ t) f is h = source_tuple many ts sizes m t f is h.1
source_tuple many (Spread axes shape ks ∷ ts) sizes m t f is h =
    let own : List ℕ = unravelled (take axes sizes) (number_at shape ks m) in
    subst (λ s. IsTuple s (own ++ source ts (drop axes sizes) m t)) (take-append-drop axes sizes)
    (tuple-append (take axes sizes) (drop axes sizes) own _ (unravelled_tuple (take axes sizes) _ (f.0 m is)) (source_tuple many ts (drop axes sizes) m t f.1 is h))

few_before : (ts : List Take) (sizes : List ℕ) → kept_before ts ≤ length (kept_shape ts sizes)
few_before [] sizes = omega arith
few_before (Whole ∷ ts) sizes = omega (arith, few_before ts (drop 1 sizes))
few_before (Added ∷ ts) sizes = omega (arith, few_before ts sizes)
few_before (Spread axes shape ks ∷ ts) sizes = omega arith

pub place_few : (is : List IndexItem) (ts : List Take) (sizes : List ℕ) → place_for is ts ≤ length (kept_shape ts sizes)
place_few is ts sizes = elim (are_together is) as (λ b. cond b (kept_before ts) 0 ≤ length (kept_shape ts sizes)) [ true ↦ few_before ts sizes | false ↦ omega arith ]

-- each tuple of what is chosen leads to one of the axes
pub chosen_tuple : (many : List ℕ) (ts : List Take) (sizes : List ℕ) (at : ℕ) (t : List ℕ) → AreTaken many ts sizes → at ≤ length (kept_shape ts sizes)
    → IsTuple (chosen_shape at many (kept_shape ts sizes)) t → IsTuple sizes (chosen_source ts sizes at (length many) t)
chosen_tuple many ts sizes at t f le is =
    let kept : List ℕ = kept_shape ts sizes in
    let long : length (take at kept) ≡ at = length-take-le at kept le in
    let first : IsTuple (take at kept) (take at t) = subst (λ n. IsTuple (take at kept) (take n t)) long (tuple_front (take at kept) (many ++ drop at kept) t is) in
    let rest : IsTuple (many ++ drop at kept) (drop at t) = subst (λ n. IsTuple (many ++ drop at kept) (drop n t)) long (tuple_back (take at kept) (many ++ drop at kept) t is) in
    let last : IsTuple (drop at kept) (drop (at + length many) t)
    = subst (IsTuple (drop at kept)) (drop-drop (length many) at t) (tuple_back many (drop at kept) (drop at t) rest) in
    source_tuple many ts sizes (take (length many) (drop at t)) (take at t ++ drop (at + length many) t) f (tuple_front many (drop at kept) (drop at t) rest)
    (subst (λ s. IsTuple s (take at t ++ drop (at + length many) t)) (take-append-drop at kept) (tuple-append (take at kept) (drop at kept) (take at t) _ first last))

-- ---- whole axes

whole_length : (n : ℕ) → length (slice_positions n None None (step_or None)) ≡ n
whole_length n = length-map (count_up 0 _) (λ k. 0 + k * 1) ∙ length-count_up 0 _ ∙ all n
  where
    all : (n : ℕ) → cond (nat_lt 0 n) (suc ((n - 0 - 1) / 1)) 0 ≡ n
    all zero = refl
    all (suc n) = let some : nat_lt 0 (suc n) ≡ true = grind (arith, nat_tests) in rw some (omega arith)

whole_picks : (k : ℕ) (sizes : List ℕ) (is : List Item) → k ≤ length sizes → picked_shape (picks_of (replicate k whole_slice ++ is) sizes) ≡ take k sizes ++ picked_shape (picks_of is (drop k sizes))
whole_picks zero sizes is le = refl
whole_picks (suc k) [] is le = absurd (omega arith)
whole_picks (suc k) (n ∷ sizes) is le = λ i. whole_length n i ∷ whole_picks k sizes is (omega arith) i

module _ (many : List ℕ) where
  whole_taken : (k : ℕ) (sizes : List ℕ) (is : List Item) (ts : List Take) → k ≤ length sizes → AreTaken many ts (picked_shape (picks_of is (drop k sizes)))
      → AreTaken many (replicate k Whole ++ ts) (picked_shape (picks_of (replicate k whole_slice ++ is) sizes))
  whole_taken zero sizes is ts le f = f
  whole_taken (suc k) [] is ts le f = absurd (omega arith)
  whole_taken (suc k) (n ∷ sizes) is ts le f = whole_taken k sizes is ts (omega arith) f

  spread_taken : (k : ℕ) (sizes : List ℕ) (is : List Item) (ts : List Take) (shape ks : List ℕ) → k ≤ length sizes → ((m : List ℕ) → IsTuple many m → number_at shape ks m < elements_of (take k sizes))
      → AreTaken many ts (picked_shape (picks_of is (drop k sizes))) → AreTaken many (Spread k shape ks ∷ ts) (picked_shape (picks_of (replicate k whole_slice ++ is) sizes))
  spread_taken k sizes is ts shape ks le h f =
      let rest : List ℕ = picked_shape (picks_of is (drop k sizes)) in
      let long : length (take k sizes) ≡ k = length-take-le k sizes le in
      subst (AreTaken many (Spread k shape ks ∷ ts)) (sym (whole_picks k sizes is le)) (
        subst (λ s. (m : List ℕ) → IsTuple many m → number_at shape ks m < elements_of s) (sym (take_at (take k sizes) rest k long)) h,
        subst (AreTaken many ts) (sym (drop_at (take k sizes) rest k long)) f,
      )

-- ---- the items do not stand outside their axes

no_fault : (o next : Option IndexFault) → or_next o next ≡ None → (o ≡ None) × (next ≡ None)
no_fault None next e = (refl, e)
no_fault (Some f) next e = absurd (cc)

within : (b : Bool) (f : IndexFault) → cond b None (Some f) ≡ None → b ≡ true
within true f e = refl
within false f e = absurd (cc)

counted_within : (axis n : ℕ) (zs : List ℤ) → outside_fault axis n zs ≡ None → All (λ z. counted_from n z < n) zs
counted_within axis n [] e = All-nil (λ z. counted_from n z < n)
counted_within axis n (z ∷ zs) e =
    let parts = no_fault (number_fault axis n z) (outside_fault axis n zs) e in
    All-cons (λ z. counted_from n z < n) z zs (counted_below n z (within (is_within n z) (OutOfBounds axis z n) parts.0)) (counted_within axis n zs parts.1)

true_below : (from : ℕ) (bs : List Bool) → All (λ k. k < from + length bs) (true_numbers from bs)
true_below from [] = All-nil (λ k. k < from + 0)
true_below from (true ∷ bs) =
    All-cons (λ k. k < from + suc (length bs)) from (true_numbers (from + 1) bs) (omega arith)
    (All-weaker (λ k. k < from + 1 + length bs) (λ k. k < from + suc (length bs)) (λ k lt. omega arith) (true_numbers (from + 1) bs) (true_below (from + 1) bs))
true_below from (false ∷ bs) =
    All-weaker (λ k. k < from + 1 + length bs) (λ k. k < from + suc (length bs)) (λ k lt. omega arith) (true_numbers (from + 1) bs) (true_below (from + 1) bs)

-- a mask has the lengths of the axes that it covers
mask_axes : (sizes : List ℕ) (axis : ℕ) (shape : List ℕ) → mask_fault sizes axis shape ≡ None → axis + length shape ≤ length sizes → take (length shape) (drop axis sizes) ≡ shape
mask_axes sizes axis [] e le = refl
mask_axes sizes axis (n ∷ shape) e le =
    let parts = same (slice_index sizes axis == n) (mask_fault sizes (axis + 1) shape) (MaskShape axis) e in
    let first : get_or sizes axis 0 ≡ n = eqb-true (slice_index sizes axis) n parts.0 in
    let rest : take (length shape) (drop (axis + 1) sizes) ≡ shape = mask_axes sizes (axis + 1) shape parts.1 (omega arith) in
    ap (take (suc (length shape))) (drop_more sizes axis 0 (omega arith)) ∙ (λ i. first i ∷ rest i)
  where
    same : (b : Bool) (o : Option IndexFault) (f : IndexFault) → cond b o (Some f) ≡ None → (b ≡ true) × (o ≡ None)
    same true o f e = (refl, e)
    same false o f e = absurd (cc)

-- ---- the arrays have a common shape

abbrev IsJoined : List ℕ → IndexItem → Type 0
IsJoined many (Basic i) = Unit {0}
IsJoined many (Numbers shape zs) = broadcasts_to shape many ≡ true
IsJoined many (Mask shape bs) = broadcasts_to (length (true_numbers 0 bs) ∷ []) many ≡ true

none_common : (is : List IndexItem) → common_shape None is ≡ None
none_common [] = refl
none_common (i ∷ is) = none_common is

joined_with : (many s t : List ℕ) (is : List IndexItem) → common_shape (broadcast s t) is ≡ Some many
    → ((u : List ℕ) → common_shape (Some u) is ≡ Some many → (fit (reverse u) (reverse many) ≡ true) × All (IsJoined many) is)
    → (fit (reverse s) (reverse many) ≡ true) × (broadcasts_to t many ≡ true) × All (IsJoined many) is
joined_with many s t is e go = by (broadcast s t) refl
  where
    by : (o : Option (List ℕ)) → broadcast s t ≡ o → (fit (reverse s) (reverse many) ≡ true) × (broadcasts_to t many ≡ true) × All (IsJoined many) is
    by None o = let f : None ≡ Some many = sym (none_common is) ∙ ap (λ o. common_shape o is) (sym o) ∙ e in absurd (cc)
    by (Some u) o =
        let rest = go u (ap (λ o. common_shape o is) (sym o) ∙ e) in
        let both = fit_broadcast s t u o in (
          fit_through (reverse s) (reverse u) (reverse many) both.0 rest.0,
          broadcasts_by t many (fit_through (reverse t) (reverse u) (reverse many) both.1 rest.0),
          rest.1,
        )

joined_all : (many s : List ℕ) (is : List IndexItem) → common_shape (Some s) is ≡ Some many → (fit (reverse s) (reverse many) ≡ true) × All (IsJoined many) is
joined_all many s [] e = let same : s ≡ many = cc in (ap (λ u. fit (reverse s) (reverse u)) (sym same) ∙ fit_itself (reverse s), All-nil (IsJoined many))
joined_all many s (Basic i ∷ is) e = let rest = joined_all many s is e in (rest.0, All-cons (IsJoined many) (Basic i) is tt rest.1)
joined_all many s (Numbers shape zs ∷ is) e =
    let both = joined_with many s shape is e (λ u. joined_all many u is) in
    (both.0, All-cons (IsJoined many) (Numbers shape zs) is both.1 both.2)
joined_all many s (Mask shape bs ∷ is) e =
    let both = joined_with many s (length (true_numbers 0 bs) ∷ []) is e (λ u. joined_all many u is) in
    (both.0, All-cons (IsJoined many) (Mask shape bs) is both.1 both.2)

-- ---- what the items take

-- the number of an array at each tuple of the common shape is one of its numbers
at_each : (P : ℕ → Type 0) (many shape ks m : List ℕ) → broadcasts_to shape many ≡ true → length ks ≡ elements_of shape → All P ks → IsTuple many m → P (number_at shape ks m)
at_each P many shape ks m fits long all is =
    let below : number shape (own_tuple shape m) < elements_of shape = number_below shape (own_tuple shape m) (narrowed_tuple shape many m fits is) in
    all (number shape (own_tuple shape m)) 0 (omega arith)

module _ (missing : ℕ) (many sizes : List ℕ) where
  -- what is taken at an axis, and is seen in the view that the slices choose
  abbrev TakenAt : List Take → List Item → ℕ → Type 0
  TakenAt ts is axis = AreTaken many ts (picked_shape (picks_of is (drop axis sizes)))

  -- positions of one axis
  one_taken : (axis : ℕ) (shape ks : List ℕ) (ts : List Take) (is : List Item) → axis + 1 ≤ length sizes
      → ((m : List ℕ) → IsTuple many m → number_at shape ks m < slice_index sizes axis) → TakenAt ts is (axis + 1) → TakenAt (Spread 1 shape ks ∷ ts) (whole_slice ∷ is) axis
  one_taken axis shape ks ts is le h f =
      let n : ℕ = slice_index sizes axis in
      let first : n ∷ [] ≡ take 1 (drop axis sizes) = ap (take 1) (sym (drop_more sizes axis 0 (omega arith))) in
      spread_taken many 1 (drop axis sizes) is ts shape ks (omega (arith, length-drop axis sizes))
      (λ m is. subst (λ s. number_at shape ks m < elements_of s) first (below (number_at shape ks m) n (h m is)))
      (subst (λ s. AreTaken many ts (picked_shape (picks_of is s))) (sym (drop-drop 1 axis sizes)) f)
    where
      below : (k n : ℕ) → k < n → k < n * 1
      below k n lt = omega arith

  item_taken : (i : IndexItem) (axis : ℕ) (ts : List Take) (is : List Item) → ellipses_of i ≡ 0 → axis + axes_of missing i ≤ length sizes
      → shape_fault sizes axis i ≡ None → bounds_fault sizes axis i ≡ None → IsJoined many i → HoldsAll i
      → TakenAt ts is (axis + axes_of missing i) → TakenAt (takes_of missing (slice_index sizes axis) i ++ ts) (slices_of i ++ is) axis
  item_taken (Basic (At z)) axis ts is none le e b j h f =
      let n : ℕ = slice_index sizes axis in
      let below : counted_from n z < n = counted_below n z (within (is_within n z) (OutOfBounds axis z n) b) in
      one_taken axis [] (counted_from n z ∷ []) ts is le (λ m _. below) f
  item_taken (Basic (Slice start stop step)) axis ts is none le e b j h f = subst (λ s. AreTaken many ts (picked_shape (picks_of is s))) (sym (drop-drop 1 axis sizes)) f
  item_taken (Basic Ellipsis) axis ts is none le e b j h f = absurd (omega arith)
  item_taken (Basic NewAxis) axis ts is none le e b j h f = subst (TakenAt ts is) (same axis) f
    where
      same : (axis : ℕ) → axis + 0 ≡ axis
      same axis = omega arith
  item_taken (Numbers shape zs) axis ts is none le e b j h f =
      let n : ℕ = slice_index sizes axis in
      one_taken axis shape (map (counted_from n) zs) ts is le
      (λ m is. at_each (λ k. k < n) many shape (map (counted_from n) zs) m j (length-map zs (counted_from n) ∙ h) (All-map (λ k. k < n) (counted_from n) zs (counted_within axis n zs b)) is) f
  item_taken (Mask shape bs) axis ts is none le e b j h f =
      let ks : List ℕ = true_numbers 0 bs in
      let axes : take (length shape) (drop axis sizes) ≡ shape = mask_axes sizes axis shape e le in
      spread_taken many (length shape) (drop axis sizes) is ts (length ks ∷ []) ks (omega (arith, length-drop axis sizes))
      (λ m is. subst (λ s. number_at (length ks ∷ []) ks m < elements_of s) (sym axes)
      (at_each (λ k. k < elements_of shape) many (length ks ∷ []) ks m j (one (length ks)) (All-weaker (λ k. k < 0 + length bs) (λ k. k < elements_of shape) (λ k lt. omega (arith, h)) ks (true_below 0 bs)) is))
      (subst (λ s. AreTaken many ts (picked_shape (picks_of is s))) (sym (drop-drop (length shape) axis sizes)) f)
    where
      one : (n : ℕ) → n ≡ n * 1
      one n = omega arith

  -- the items behind `...`, or those of an index that stands for all axes
  behind_taken : (is : List IndexItem) (axis : ℕ) → ellipses_in is ≡ 0 → axis + axes_in missing is ≡ length sizes
      → first_fault (shape_fault sizes) missing axis is ≡ None → first_fault (bounds_fault sizes) missing axis is ≡ None → All (IsJoined many) is → All HoldsAll is
      → TakenAt (takes_in missing axis sizes is) (slices_in is) axis
  behind_taken [] axis none count e b j h = let left : length sizes - axis ≡ 0 = omega arith in rw left tt
  behind_taken (i ∷ is) axis none count e b j h =
      let shapes = no_fault (shape_fault sizes axis i) _ e in let bounds = no_fault (bounds_fault sizes axis i) _ b in
      item_taken i axis (takes_in missing (axis + axes_of missing i) sizes is) (slices_in is) (omega arith) (omega arith) shapes.0 bounds.0
      (All-head (IsJoined many) i is j) (All-head HoldsAll i is h)
      (behind_taken is (axis + axes_of missing i) (omega arith) (omega arith) shapes.1 bounds.1 (All-tail (IsJoined many) i is j) (All-tail HoldsAll i is h))

  -- without `...` an index stands for the same axes however many are missing
  same_axes : (is : List IndexItem) → ellipses_in is ≡ 0 → axes_in missing is ≡ axes_in 0 is
  same_axes [] none = refl
  same_axes (Basic Ellipsis ∷ is) none = absurd (omega arith)
  same_axes (i ∷ is) none = ap (λ n. axes_of 0 i + n) (same_axes is (omega arith))

  filled_slices : (i : IndexItem) (is : List Item) → ellipses_of i ≡ 0 → filled_items missing (slices_of i ++ is) ≡ slices_of i ++ filled_items missing is
  filled_slices (Basic (At z)) is none = refl
  filled_slices (Basic (Slice start stop step)) is none = refl
  filled_slices (Basic Ellipsis) is none = absurd (omega arith)
  filled_slices (Basic NewAxis) is none = refl
  filled_slices (Numbers shape zs) is none = refl
  filled_slices (Mask shape bs) is none = wholes (length shape)
    where
      wholes : (k : ℕ) → filled_items missing (replicate k whole_slice ++ is) ≡ replicate k whole_slice ++ filled_items missing is
      wholes zero = refl
      wholes (suc k) = ap (λ l. whole_slice ∷ l) (wholes k)

  -- the items of an index, `...` among them or not
  all_taken : (is : List IndexItem) (axis : ℕ) → ellipses_in is < 2 → axis + (missing + axes_in 0 is) ≡ length sizes
      → first_fault (shape_fault sizes) missing axis is ≡ None → first_fault (bounds_fault sizes) missing axis is ≡ None → All (IsJoined many) is → All HoldsAll is
      → TakenAt (takes_in missing axis sizes is) (filled_items missing (slices_in is)) axis
  all_taken [] axis few count e b j h =
      let left : length sizes - axis ≡ missing = omega arith in
      rw left (subst (λ l. AreTaken many l (picked_shape (picks_of (replicate missing whole_slice) (drop axis sizes)))) (append-nil (replicate missing Whole))
      (subst (λ l. TakenAt (replicate missing Whole ++ []) l axis) (append-nil (replicate missing whole_slice))
      (whole_taken many missing (drop axis sizes) [] [] (omega (arith, length-drop axis sizes)) tt)))
  all_taken (Basic Ellipsis ∷ is) axis few count e b j h =
      let none : ellipses_in is ≡ 0 = omega arith in
      let rest = behind_taken is (axis + missing) none (omega (arith, same_axes is none)) e b (All-tail (IsJoined many) (Basic Ellipsis) is j) (All-tail HoldsAll (Basic Ellipsis) is h) in
      whole_taken many missing (drop axis sizes) (slices_in is) (takes_in missing (axis + missing) sizes is) (omega (arith, length-drop axis sizes))
      (subst (λ s. AreTaken many (takes_in missing (axis + missing) sizes is) (picked_shape (picks_of (slices_in is) s))) (sym (drop-drop missing axis sizes)) rest)
  all_taken (i ∷ is) axis few count e b j h = one_more i is axis refl refl few count e b j h (all_taken is)
    where
      one_more : (i : IndexItem) (is : List IndexItem) (axis : ℕ) → ellipses_of i ≡ 0 → axes_of missing i ≡ axes_of 0 i → ellipses_in (i ∷ is) < 2 → axis + (missing + axes_in 0 (i ∷ is)) ≡ length sizes
          → first_fault (shape_fault sizes) missing axis (i ∷ is) ≡ None → first_fault (bounds_fault sizes) missing axis (i ∷ is) ≡ None → All (IsJoined many) (i ∷ is) → All HoldsAll (i ∷ is)
          → ((axis : ℕ) → ellipses_in is < 2 → axis + (missing + axes_in 0 is) ≡ length sizes
          → first_fault (shape_fault sizes) missing axis is ≡ None → first_fault (bounds_fault sizes) missing axis is ≡ None → All (IsJoined many) is → All HoldsAll is
          → TakenAt (takes_in missing axis sizes is) (filled_items missing (slices_in is)) axis)
          → TakenAt (takes_in missing axis sizes (i ∷ is)) (filled_items missing (slices_in (i ∷ is))) axis
      one_more i is axis none same few count e b j h go =
          let shapes = no_fault (shape_fault sizes axis i) _ e in let bounds = no_fault (bounds_fault sizes axis i) _ b in
          subst (λ l. TakenAt (takes_in missing axis sizes (i ∷ is)) l axis) (sym (filled_slices i (slices_in is) none))
          (item_taken i axis (takes_in missing (axis + axes_of missing i) sizes is) (filled_items missing (slices_in is)) none (omega arith) shapes.0 bounds.0
          (All-head (IsJoined many) i is j) (All-head HoldsAll i is h)
          (go (axis + axes_of missing i) (omega arith) (omega arith) shapes.1 bounds.1 (All-tail (IsJoined many) i is j) (All-tail HoldsAll i is h)))

-- the slices stand for as many axes
pub slices_axes_in : (is : List IndexItem) → selecting.axes_in (slices_in is) ≡ axes_in 0 is
slices_axes_in [] = refl
slices_axes_in (Basic (At z) ∷ is) = ap (λ n. 1 + n) (slices_axes_in is)
slices_axes_in (Basic (Slice start stop step) ∷ is) = ap (λ n. 1 + n) (slices_axes_in is)
slices_axes_in (Basic Ellipsis ∷ is) = ap (λ n. 0 + n) (slices_axes_in is)
slices_axes_in (Basic NewAxis ∷ is) = omega (arith, slices_axes_in is)
slices_axes_in (Numbers shape zs ∷ is) = ap (λ n. 1 + n) (slices_axes_in is)
slices_axes_in (Mask shape bs ∷ is) = slices_axes (length shape) (slices_in is) ∙ ap (λ n. length shape + n) (slices_axes_in is)

-- ---- what is chosen

pub bind_ok : {A B : Type 0} (x : Result A Fault) (f : A → Result B Fault) (y : B) → (x >>= f) ≡ Ok y → (z : A) × (x ≡ Ok z) × (f z ≡ Ok y)
bind_ok (Ok z) f y e = (z, refl, e)
bind_ok (Err g) f y e = absurd (cc)

fault_ok : {A : Type 0} (o : Option IndexFault) (x : Result A Fault) (y : A) → unless_fault o x ≡ Ok y → (o ≡ None) × (x ≡ Ok y)
fault_ok None x y e = (refl, e)
fault_ok (Some f) x y e = absurd (cc)

shape_ok : {A : Type 0} (o : Option (List ℕ)) (f : List ℕ → Result A Fault) (y : A) → with_shape o f ≡ Ok y → (many : List ℕ) × (o ≡ Some many) × (f many ≡ Ok y)
shape_ok None f y e = absurd (cc)
shape_ok (Some many) f y e = (many, refl, e)

-- the view that the slices choose has the lengths of their picks
selected_shape : (is : List Item) (g h : Geo) → select is g ≡ Ok h → picked_shape (picks_of (items_for g.shape is) g.shape) ≡ h.shape
selected_shape is g h e =
    let all : List Item = items_for g.shape is in
    let one = when_ok _ _ _ h e in
    let few = when_ok (nat_le (selecting.axes_in is) (length g.shape)) _ _ h one.1 in
    let stepped = when_ok _ _ _ h few.1 in
    let inside = outside_ok (first_outside all 0 g.shape) _ h stepped.1 in
    let limited = unless_ok (limit_fault (item_size g.element) (picked_shape (picks_of all g.shape))) _ h inside.1 in
    let same : picked_view g (picks_of all g.shape) ≡ h = ok_same (picked_view g (picks_of all g.shape)) h limited.1 in
    ap (λ (v : Geo). v.shape) same

-- the view of what is taken of a view
taken_lies : (is : List IndexItem) (ts : List Take) (many : List ℕ) (g h : Geo) (len : ℕ) → AreTaken many ts g.shape → LiesIn len g → chosen_view is ts many g ≡ Ok h → LiesIn len h
taken_lies is ts many g h len f lies e =
    let at : ℕ = place_for is ts in
    let shape : List ℕ = chosen_shape at many (kept_shape ts g.shape) in
    let from : List ℕ → List ℕ = chosen_source ts g.shape at (length many) in
    let limited = unless_ok (limit_fault (item_size g.element) shape) (Ok (rearranged_view g shape from)) h e in
    let within = taking_within len g shape from lies (λ t tuple. chosen_tuple many ts g.shape at t f (place_few is ts g.shape) tuple) in
    subst (LiesIn len) (ok_same (rearranged_view g shape from) h limited.1) (record { count = within.0; limits = limited.0; inside = within.1 })

-- what the items of an index take is there in the view that its slices choose
pub sliced_taken : (is : List IndexItem) (many : List ℕ) (g h : Geo) → ellipses_in is < 2 → axes_in 0 is ≤ length g.shape → All HoldsAll is
    → first_fault (shape_fault g.shape) (length g.shape - axes_in 0 is) 0 is ≡ None → first_fault (bounds_fault g.shape) (length g.shape - axes_in 0 is) 0 is ≡ None
    → common_shape (Some []) is ≡ Some many → select (slices_in is) g ≡ Ok h → AreTaken many (takes_in (length g.shape - axes_in 0 is) 0 g.shape is) h.shape
sliced_taken is many g h few le holds shapes bounds common e =
    let missing : ℕ = length g.shape - axes_in 0 is in
    let joined = joined_all many [] is common in
    let items : filled_items missing (slices_in is) ≡ items_for g.shape (slices_in is) = ap (λ n. filled_items (length g.shape - n) (slices_in is)) (sym (slices_axes_in is)) in
    subst (AreTaken many (takes_in missing 0 g.shape is)) (ap (λ l. picked_shape (picks_of l g.shape)) items ∙ selected_shape (slices_in is) g h e)
    (all_taken missing many g.shape is 0 few (omega arith) shapes bounds joined.1 holds)

-- an index that stands for no more axes than there are
filled_lies : (is : List IndexItem) (g h : Geo) (len : ℕ) → ellipses_in is < 2 → axes_in 0 is ≤ length g.shape → All HoldsAll is → LiesIn len g
    → choose_filled (length g.shape - axes_in 0 is) is g ≡ Ok h → LiesIn len h
filled_lies is g h len few le holds lies e =
    let missing : ℕ = length g.shape - axes_in 0 is in
    let ts : List Take = takes_in missing 0 g.shape is in
    let shapes = fault_ok (first_fault (shape_fault g.shape) missing 0 is) _ h e in
    let common = shape_ok (common_shape (Some []) is) _ h shapes.1 in
    let bounds = fault_ok (first_fault (bounds_fault g.shape) missing 0 is) (select (slices_in is) g >>= chosen_view is ts common.0) h common.2 in
    let found = bind_ok (select (slices_in is) g) (chosen_view is ts common.0) h bounds.1 in
    taken_lies is ts common.0 found.0 h len (sliced_taken is common.0 g found.0 few le holds shapes.0 bounds.0 common.1 found.1)
    (selected_lies (slices_in is) g found.0 len lies found.1) found.2

pub advanced_lies : (is : List IndexItem) (g h : Geo) (len : ℕ) → All HoldsAll is → LiesIn len g → choose is g ≡ Ok h → LiesIn len h
advanced_lies is g h len holds lies e =
    let one = when_ok (nat_lt (ellipses_in is) 2) _ _ h e in
    let few = when_ok (nat_le (axes_in 0 is) (length g.shape)) _ _ h one.1 in
    filled_lies is g h len (less (ellipses_in is) one.0) (below (axes_in 0 is) (length g.shape) few.0) holds lies few.1
  where
    less : (n : ℕ) → nat_lt n 2 ≡ true → n < 2
    less n e = grind (arith, nat_tests)

    below : (m n : ℕ) → nat_le m n ≡ true → m ≤ n
    below m n e = grind (arith, nat_tests)
