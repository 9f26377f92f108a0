-- The view that slices leave.
use Rattle.std.proofs.Common.{◌≡◌, ℕ, zero, suc, ◌+◌, ◌-◌, ◌≤◌, List, [], ◌∷◌, ◌++◌, length, replicate, refl, sym, ap, ◌∙◌, arith, length-append}
use Rattle.std.specs.Prelude.{nat_le, slice_index, Ok}
use Rattle.std.proofs.lemmas.List.{length-replicate}
use Rattle.nd_model.specs.Indexing.Advanced.{IndexItem, Basic, Numbers, Mask, axes_of, axes_in, ellipses_of, ellipses_in, slices_of, slices_in, Take, Whole, takes_of, takes_in}
use Rattle.nd_model.specs.Indexing.Selecting as selecting
use Rattle.nd_model.specs.Indexing.Selecting.{Item, At, Slice, Ellipsis, NewAxis, whole_slice, items_for, picks_of, picked_shape, picked_view, first_outside, select}
use Rattle.nd_model.specs.Arrays.Strides.{limit_fault}
use Rattle.nd_model.specs.Arrays.View.{Geo, item_size}
use Rattle.nd_model.proofs.Gathered.{slices_axes_in}
use Rattle.nd_model.proofs.Selected.{outside_ok}
use Rattle.nd_model.proofs.Stretched.{unless_ok}
use Rattle.nd_model.proofs.Transposed.{when_ok, ok_same}
use Rattle.nd_index.specs.Basic.Items.{kept_in}
use Rattle.nd_index.proofs.basic.Fillings.{filled_kept, axes_kept}
use Rattle.nd_index.specs.Advanced.Takes.{axes_taken}

kept_more : (is js : List Item) → kept_in (is ++ js) ≡ kept_in is + kept_in js
kept_more [] js = omega arith
kept_more (i ∷ is) js = omega (arith, kept_more is js)

whole_kept : (n : ℕ) → kept_in (replicate n whole_slice) ≡ n
whole_kept zero = refl
whole_kept (suc n) = omega (arith, whole_kept n)

one_kept : (i : IndexItem) → kept_in (slices_of i) ≡ axes_of 0 i
one_kept (Basic (At z)) = refl
one_kept (Basic (Slice a b c)) = refl
one_kept (Basic Ellipsis) = refl
one_kept (Basic NewAxis) = refl
one_kept (Numbers shape zs) = refl
one_kept (Mask shape bs) = whole_kept (length shape)

all_kept : (is : List IndexItem) → kept_in (slices_in is) ≡ axes_in 0 is
all_kept [] = refl
all_kept (i ∷ is) = kept_more (slices_of i) (slices_in is) ∙ omega (arith, one_kept i, all_kept is)

pub selected_is : (is : List Item) (g h : Geo) → select is g ≡ Ok h → picked_view g (picks_of (items_for g.shape is) g.shape) ≡ h
selected_is is g h e =
    let all : List Item = items_for g.shape is in
    let one = when_ok _ _ _ h e in
    let few = when_ok (nat_le (selecting.axes_in is) (length g.shape)) _ _ h one.1 in
    let stepped = when_ok _ _ _ h few.1 in
    let inside = outside_ok (first_outside all 0 g.shape) _ h stepped.1 in
    let limited = unless_ok (limit_fault (item_size g.element) (picked_shape (picks_of all g.shape))) _ h inside.1 in
    ok_same (picked_view g (picks_of all g.shape)) h limited.1

-- the slices leave as many axes as there were
pub sliced_axes : (is : List IndexItem) (g h : Geo) → select (slices_in is) g ≡ Ok h → axes_in 0 is ≤ length g.shape → length h.shape ≡ length g.shape
sliced_axes is g h e le =
    ap (λ (v : Geo). length v.shape) (sym (selected_is (slices_in is) g h e))
    ∙ axes_kept (items_for g.shape (slices_in is)) g.shape ∙ filled_kept (length g.shape - selecting.axes_in (slices_in is)) (slices_in is)
    ∙ omega (arith, all_kept is, slices_axes_in is)

-- ---- the axes that are taken

taken_more : (ts us : List Take) → axes_taken (ts ++ us) ≡ axes_taken ts + axes_taken us
taken_more [] us = omega arith
taken_more (t ∷ ts) us = omega (arith, taken_more ts us)

whole_taken : (n : ℕ) → axes_taken (replicate n Whole) ≡ n
whole_taken zero = refl
whole_taken (suc n) = omega (arith, whole_taken n)

one_taken : (missing size : ℕ) (i : IndexItem) → axes_taken (takes_of missing size i) ≡ axes_of missing i
one_taken missing size (Basic (At z)) = refl
one_taken missing size (Basic (Slice a b c)) = refl
one_taken missing size (Basic Ellipsis) = whole_taken missing
one_taken missing size (Basic NewAxis) = refl
one_taken missing size (Numbers shape zs) = refl
one_taken missing size (Mask shape bs) = omega arith

pub all_taken : (missing axis : ℕ) (sizes : List ℕ) (is : List IndexItem) → axes_taken (takes_in missing axis sizes is) ≡ axes_in missing is + (length sizes - (axis + axes_in missing is))
all_taken missing axis sizes [] = whole_taken (length sizes - axis) ∙ omega arith
all_taken missing axis sizes (i ∷ is) =
    taken_more (takes_of missing (slice_index sizes axis) i) (takes_in missing (axis + axes_of missing i) sizes is)
    ∙ omega (arith, one_taken missing (slice_index sizes axis) i, all_taken missing (axis + axes_of missing i) sizes is)

-- ---- how many slices there are

one_slices : (i : IndexItem) → length (slices_of i) ≡ axes_of 0 i + ellipses_of i
one_slices (Basic (At z)) = refl
one_slices (Basic (Slice a b c)) = refl
one_slices (Basic Ellipsis) = refl
one_slices (Basic NewAxis) = refl
one_slices (Numbers shape zs) = refl
one_slices (Mask shape bs) = omega (arith, length-replicate (length shape) whole_slice)

pub slices_few : (is : List IndexItem) → length (slices_in is) ≡ axes_in 0 is + ellipses_in is
slices_few [] = refl
slices_few (i ∷ is) = omega (arith, length-append (slices_of i) (slices_in is), one_slices i, slices_few is)
