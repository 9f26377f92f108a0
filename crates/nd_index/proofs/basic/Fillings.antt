-- What the whole slices that are filled in add.
use Rattle.std.proofs.Common.{◌≡◌, ℕ, zero, suc, ◌+◌, ◌||◌, List, [], ◌∷◌, ◌++◌, length, drop, replicate, refl, sym, ap, ◌∙◌, arith, append-nil}
use Rattle.std.specs.List.{list_any}
use Rattle.nd_model.specs.Indexing.Selecting.{Item, At, Slice, Ellipsis, NewAxis, has_zero_step, whole_slice, filled_items, picks_of, picked_shape}
use Rattle.nd_index.specs.Basic.Items.{kept_in}

slices_kept : (m : ℕ) (is : List Item) → kept_in (replicate m whole_slice ++ is) ≡ m + kept_in is
slices_kept zero is = omega arith
slices_kept (suc m) is = omega (arith, slices_kept m is)

pub filled_kept : (m : ℕ) (is : List Item) → kept_in (filled_items m is) ≡ m + kept_in is
filled_kept m [] = ap kept_in (sym (append-nil (replicate m whole_slice))) ∙ slices_kept m []
filled_kept m (At z ∷ is) = omega (arith, filled_kept m is)
filled_kept m (Slice start stop step ∷ is) = omega (arith, filled_kept m is)
filled_kept m (Ellipsis ∷ is) = slices_kept m is ∙ none m (kept_in is)
  where
    none : (m n : ℕ) → m + n ≡ m + (0 + n)
    none m n = omega arith
filled_kept m (NewAxis ∷ is) = omega (arith, filled_kept m is)

slices_steps : (m : ℕ) (is : List Item) → list_any has_zero_step (replicate m whole_slice ++ is) ≡ list_any has_zero_step is
slices_steps zero is = refl
slices_steps (suc m) is = slices_steps m is

pub filled_steps : (m : ℕ) (is : List Item) → list_any has_zero_step (filled_items m is) ≡ list_any has_zero_step is
filled_steps m [] = ap (list_any has_zero_step) (sym (append-nil (replicate m whole_slice))) ∙ slices_steps m []
filled_steps m (At z ∷ is) = filled_steps m is
filled_steps m (Slice start stop step ∷ is) = ap (λ b. has_zero_step (Slice start stop step) || b) (filled_steps m is)
filled_steps m (Ellipsis ∷ is) = slices_steps m is
filled_steps m (NewAxis ∷ is) = filled_steps m is

pub axes_kept : (is : List Item) (sizes : List ℕ) → length (picked_shape (picks_of is sizes)) ≡ kept_in is
axes_kept [] sizes = refl
axes_kept (At z ∷ is) sizes = axes_kept is (drop 1 sizes) ∙ none (kept_in is)
  where
    none : (n : ℕ) → n ≡ 0 + n
    none n = omega arith
axes_kept (Slice start stop step ∷ is) sizes = omega (arith, axes_kept is (drop 1 sizes))
axes_kept (Ellipsis ∷ is) sizes = omega (arith, axes_kept is sizes)
axes_kept (NewAxis ∷ is) sizes = omega (arith, axes_kept is sizes)
