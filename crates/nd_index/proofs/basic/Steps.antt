-- One item more of a filled index.
use Rattle.std.proofs.Common.{◌≡◌, ℕ, ◌+◌, ◌<◌, true, false, cond, ◌||◌, List, [], ◌∷◌, ◌++◌, length, drop, get_or, Option, Some, None, refl, sym, ap, ◌∙◌, arith, add-one, drop-cons, append_assoc}
use Rattle.std.specs.Prelude.{ℤ, pos, ◌+ℤ◌, ◌*ℤ◌}
use Rattle.std.specs.List.{list_any}
use Rattle.std.proofs.lemmas.Int.{ints}
use Rattle.std.proofs.lemmas.List.{drop-drop, get_or-drop}
use Rattle.nd_model.specs.Cells.Fault.{IndexFault, OutOfBounds}
use Rattle.nd_model.specs.Indexing.Selecting.{is_within}
use Rattle.nd_model.specs.Arrays.Strides.{way_to}
use Rattle.nd_model.specs.Indexing.Selecting.{Item, At, Slice, Ellipsis, NewAxis, axes_of, axes_in, has_zero_step, whole_slice, outside_of, first_outside, Pick, pick_of, picks_of, picked_shape, source}
use Rattle.nd_index.specs.Basic.Layouts.{IsInside, stride_of, picked_strides, picked_way}

-- ---- what an item picks, before the rest

shape_more : (n : ℕ) (i : Item) (qs : List Pick) → picked_shape (pick_of n i qs) ≡ picked_shape (pick_of n i []) ++ picked_shape qs
shape_more n (At z) qs = refl
shape_more n (Slice start stop step) qs = refl
shape_more n Ellipsis qs = refl
shape_more n NewAxis qs = refl

strides_more : (n : ℕ) (i : Item) (qs : List Pick) (strides : List ℤ) → picked_strides (pick_of n i qs) strides ≡ picked_strides (pick_of n i []) (stride_of strides ∷ []) ++ picked_strides qs (drop (axes_of i) strides)
strides_more n (At z) qs strides = refl
strides_more n (Slice start stop step) qs strides = refl
strides_more n Ellipsis qs strides = refl
strides_more n NewAxis qs strides = refl

no_way : (t : List ℕ) → way_to t [] ≡ pos 0
no_way [] = refl
no_way (i ∷ t) = refl

way_first : (k : ℕ) (t : List ℕ) (strides : List ℤ) → way_to (k ∷ t) strides ≡ ((pos k *ℤ stride_of strides) +ℤ pos 0) +ℤ way_to t (drop 1 strides)
way_first k t [] = rw (no_way t) (omega (arith, ints))
way_first k t (s ∷ strides) = omega (arith, ints)

none_before : (z : ℤ) → z ≡ pos 0 +ℤ z
none_before z = omega (arith, ints)

way_more : (n : ℕ) (i : Item) (qs : List Pick) (strides : List ℤ) → picked_way (pick_of n i qs) strides ≡ picked_way (pick_of n i []) (stride_of strides ∷ []) +ℤ picked_way qs (drop (axes_of i) strides)
way_more n (At z) qs strides = way_first _ (source qs []) strides
way_more n (Slice start stop step) qs strides = way_first _ (source qs []) strides
way_more n Ellipsis qs strides = none_before (way_to (source qs []) strides)
way_more n NewAxis qs strides = none_before (way_to (source qs []) strides)

-- ---- outside

pub inside_of : (axis n : ℕ) (i : Item) (next : Option IndexFault) → outside_of axis n i next ≡ None → IsInside n i × (next ≡ None)
inside_of axis n (At z) next e = elim (is_within n z) as (λ b. cond b next (Some (OutOfBounds axis z n)) ≡ None → (b ≡ true) × (next ≡ None)) [ true ↦ λ e. (refl, e) | false ↦ λ e. cc ] e
inside_of axis n (Slice start stop step) next e = (tt, e)
inside_of axis n Ellipsis next e = (tt, e)
inside_of axis n NewAxis next e = (tt, e)

step_of : (i : Item) (is : List Item) → list_any has_zero_step (i ∷ is) ≡ false → (has_zero_step i ≡ false) × (list_any has_zero_step is ≡ false)
step_of i is e = elim (has_zero_step i) as (λ b. (b || list_any has_zero_step is) ≡ false → (b ≡ false) × (list_any has_zero_step is ≡ false)) [ true ↦ λ e. cc | false ↦ λ e. (refl, e) ] e

sum_assoc : (x y z : ℤ) → (x +ℤ y) +ℤ z ≡ x +ℤ (y +ℤ z)
sum_assoc x y z = omega (arith, ints)

-- ---- at the item of this number and this axis
module _ (fs : List Item) (shape : List ℕ) (number axis : ℕ) (lt : number < length fs) where
  abbrev pub item : Item
  item = get_or fs number whole_slice

  rest : drop number fs ≡ get_or fs number whole_slice ∷ drop (number + 1) fs
  rest = rw add-one (drop-cons fs number whole_slice lt)

  onward : {A : Type 0} (xs : List A) → drop (axes_of item) (drop axis xs) ≡ drop (axis + axes_of item) xs
  onward xs = drop-drop (axes_of item) axis xs

  here : {A : Type 0} (xs : List A) (d : A) → get_or (drop axis xs) 0 d ≡ get_or xs axis d
  here xs d = get_or-drop axis xs 0 d ∙ ap (λ k. get_or xs k d) (omega arith)

  abbrev pub left : List Pick
  left = picks_of (drop (number + 1) fs) (drop (axis + axes_of item) shape)

  picks : picks_of (drop number fs) (drop axis shape) ≡ pick_of (get_or shape axis 0) item left
  picks = ap (λ is. picks_of is (drop axis shape)) rest ∙ (λ k. pick_of (here shape 0 k) item (picks_of (drop (number + 1) fs) (onward shape k)))

  pub outside_next : first_outside (drop number fs) axis (drop axis shape) ≡ outside_of axis (get_or shape axis 0) item (first_outside (drop (number + 1) fs) (axis + axes_of item) (drop (axis + axes_of item) shape))
  outside_next = ap (λ is. first_outside is axis (drop axis shape)) rest ∙ (λ k. outside_of axis (here shape 0 k) item (first_outside (drop (number + 1) fs) (axis + axes_of item) (onward shape k)))

  pub axes_next : axes_in (drop number fs) ≡ axes_of item + axes_in (drop (number + 1) fs)
  axes_next = ap axes_in rest

  pub step_next : list_any has_zero_step (drop number fs) ≡ false → (has_zero_step item ≡ false) × (list_any has_zero_step (drop (number + 1) fs) ≡ false)
  step_next e = step_of item (drop (number + 1) fs) (rw rest at e)

  pub shape_next : picked_shape (picks_of (drop number fs) (drop axis shape)) ≡ picked_shape (pick_of (get_or shape axis 0) item []) ++ picked_shape left
  shape_next = ap picked_shape picks ∙ shape_more (get_or shape axis 0) item left

  pub strides_next : (strides : List ℤ) → picked_strides (picks_of (drop number fs) (drop axis shape)) (drop axis strides)
      ≡ picked_strides (pick_of (get_or shape axis 0) item []) (get_or strides axis (pos 0) ∷ []) ++ picked_strides left (drop (axis + axes_of item) strides)
  strides_next strides = ap (λ qs. picked_strides qs (drop axis strides)) picks ∙ strides_more (get_or shape axis 0) item left (drop axis strides)
      ∙ (λ k. picked_strides (pick_of (get_or shape axis 0) item []) (here strides (pos 0) k ∷ []) ++ picked_strides left (onward strides k))

  pub way_next : (strides : List ℤ) → picked_way (picks_of (drop number fs) (drop axis shape)) (drop axis strides)
      ≡ picked_way (pick_of (get_or shape axis 0) item []) (get_or strides axis (pos 0) ∷ []) +ℤ picked_way left (drop (axis + axes_of item) strides)
  way_next strides = ap (λ qs. picked_way qs (drop axis strides)) picks ∙ way_more (get_or shape axis 0) item left (drop axis strides)
      ∙ (λ k. picked_way (pick_of (get_or shape axis 0) item []) (here strides (pos 0) k ∷ []) +ℤ picked_way left (onward strides k))

  -- what the code has laid out so far, and one item more
  module _ (i : Item) (n k : ℕ) (is : i ≡ item) (len : n ≡ get_or shape axis 0) (axes : k ≡ axes_of i) where
    behind : axis + k ≡ axis + axes_of item
    behind = ap (λ m. axis + m) (axes ∙ ap axes_of is)

    pub axes_laid : (all : ℕ) → axis + axes_in (drop number fs) ≡ all → (axis + k) + axes_in (drop (number + 1) fs) ≡ all
    axes_laid all e = omega (arith, e, axes_next, behind)

    pub inside_laid : first_outside (drop number fs) axis (drop axis shape) ≡ None → first_outside (drop (number + 1) fs) (axis + k) (drop (axis + k) shape) ≡ None
    inside_laid e = (λ j. first_outside (drop (number + 1) fs) (behind j) (drop (behind j) shape)) ∙ (inside_of axis (get_or shape axis 0) item _ (sym outside_next ∙ e)).1

    pub lengths_laid : (now next all : List ℕ) → next ≡ now ++ picked_shape (pick_of n i []) → now ++ picked_shape (picks_of (drop number fs) (drop axis shape)) ≡ all
        → next ++ picked_shape (picks_of (drop (number + 1) fs) (drop (axis + k) shape)) ≡ all
    lengths_laid now next all more e =
        (λ j. more j ++ picked_shape (picks_of (drop (number + 1) fs) (drop (behind j) shape)))
        ∙ (λ j. (now ++ picked_shape (pick_of (len j) (is j) [])) ++ picked_shape left)
        ∙ append_assoc now (picked_shape (pick_of (get_or shape axis 0) item [])) (picked_shape left) ∙ ap (λ l. now ++ l) (sym shape_next) ∙ e

    module _ (strides : List ℤ) (s : ℤ) (stride : s ≡ get_or strides axis (pos 0)) where
      pub strides_laid : (now next all : List ℤ) → next ≡ now ++ picked_strides (pick_of n i []) (s ∷ []) → now ++ picked_strides (picks_of (drop number fs) (drop axis shape)) (drop axis strides) ≡ all
          → next ++ picked_strides (picks_of (drop (number + 1) fs) (drop (axis + k) shape)) (drop (axis + k) strides) ≡ all
      strides_laid now next all more e =
          (λ j. more j ++ picked_strides (picks_of (drop (number + 1) fs) (drop (behind j) shape)) (drop (behind j) strides))
          ∙ (λ j. (now ++ picked_strides (pick_of (len j) (is j) []) (stride j ∷ [])) ++ picked_strides left (drop (axis + axes_of item) strides))
          ∙ append_assoc now (picked_strides (pick_of (get_or shape axis 0) item []) (get_or strides axis (pos 0) ∷ [])) (picked_strides left (drop (axis + axes_of item) strides))
          ∙ ap (λ l. now ++ l) (sym (strides_next strides)) ∙ e

      pub way_laid : (now next all : ℤ) → next ≡ now +ℤ picked_way (pick_of n i []) (s ∷ []) → now +ℤ picked_way (picks_of (drop number fs) (drop axis shape)) (drop axis strides) ≡ all
          → next +ℤ picked_way (picks_of (drop (number + 1) fs) (drop (axis + k) shape)) (drop (axis + k) strides) ≡ all
      way_laid now next all more e =
          (λ j. more j +ℤ picked_way (picks_of (drop (number + 1) fs) (drop (behind j) shape)) (drop (behind j) strides))
          ∙ (λ j. (now +ℤ picked_way (pick_of (len j) (is j) []) (stride j ∷ [])) +ℤ picked_way left (drop (axis + axes_of item) strides))
          ∙ sum_assoc now (picked_way (pick_of (get_or shape axis 0) item []) (get_or strides axis (pos 0) ∷ [])) (picked_way left (drop (axis + axes_of item) strides))
          ∙ ap (λ z. now +ℤ z) (sym (way_next strides)) ∙ e
