-- Items one by one.
use Rattle.std.proofs.Common.{◌≡◌, ℕ, zero, suc, ◌+◌, ◌*◌, ◌^◌, ◌<◌, ◌≤◌, Bool, true, false, cond, ℤ, List, [], ◌∷◌, map, length, get_or, Option, Some, None, refl, sym, ap, subst, ◌∙◌, arith}
use Rattle.std.specs.List.{All}
use Rattle.std.proofs.lemmas.List.Elements.{All-nil, All-cons}
use Rattle.nd_model.specs.Arrays.Element.{Element}
use Rattle.nd_model.specs.Arrays.Content.{content_at, number_in}
use Rattle.nd_model.specs.Arrays.View.{ElementType, One}
use Rattle.nd_model.specs.Indexing.Advanced.{IndexItem, Basic, Numbers, Mask, kind_item, array_item, axes_of, axes_in, ellipses_of, ellipses_in, or_next, common_shape, true_numbers, first_fault, bounds_fault, number_fault, outside_fault}
use Rattle.nd_model.specs.Cells.Fault.{IndexFault, OutOfBounds}
use Rattle.nd_element.specs.Elements.{numbers_at}
use Rattle.nd_view.proofs.Tuples.{map-map}
use Rattle.nd_model.specs.Indexing.Selecting.{At, Slice, Ellipsis, NewAxis, counted_from, is_within}
use Rattle.nd_model.proofs.Selected.{counted_below}
use Rattle.nd_types.specs.Kinds.{kind_of}
use Rattle.nd_types.specs.declared.kind.Kind as code
use Rattle.nd_types.specs.declared.kind.Kind.TheVariants as kinds
use Rattle.nd_index.specs.Items.Inside.{IsInside}
use Rattle.nd_places.proofs.Found.{count_any}

axes_more : (m : ℕ) (i : IndexItem) → axes_of m i ≡ axes_of 0 i + m * ellipses_of i
axes_more m (Basic (At z)) = omega arith
axes_more m (Basic (Slice a b c)) = omega arith
axes_more m (Basic Ellipsis) = omega arith
axes_more m (Basic NewAxis) = omega arith
axes_more m (Numbers shape zs) = omega arith
axes_more m (Mask shape bs) = omega arith

pub axes_filled : (m : ℕ) (is : List IndexItem) → axes_in m is ≡ axes_in 0 is + m * ellipses_in is
axes_filled m [] = omega arith
axes_filled m (i ∷ is) = omega (arith, axes_more m i, axes_filled m is)

pub none_common : (is : List IndexItem) → common_shape None is ≡ None
none_common [] = refl
none_common (i ∷ is) = none_common is

-- where the first is none, the next one is
pub next_none : (a b : Option IndexFault) → or_next a b ≡ None → (a ≡ None) × (b ≡ None)
next_none None b e = (refl, e)
next_none (Some f) b e = absurd cc

-- from where the numbers of true elements are counted
pub count_from : (bs : List Bool) → length (true_numbers 1 bs) ≡ length (true_numbers 0 bs)
count_from bs = count_any 1 0 bs

-- an array with axes, of numbers
pub array_is : (t : ElementType) (e : Element) (shape bytes places : List ℕ) → One e ≡ t → 0 < length shape
    → array_item t shape (map (content_at t bytes) places) ≡ Some (kind_item e.kind shape (numbers_at e bytes places))
array_is t e [] bytes places is some = absurd (omega arith)
array_is t e (n ∷ shape) bytes places is some =
    ap (λ (u : ElementType). array_item u (n ∷ shape) (map (content_at u bytes) places)) (sym is)
    ∙ ap (λ zs. Some (kind_item e.kind (n ∷ shape) zs)) (map-map number_in (content_at (One e) bytes) places)

-- with one `...` at most the items stand for all axes and no more
pub filled_few : (missing n : ℕ) (is : List IndexItem) → axes_in 0 is + missing ≡ n → ellipses_in is ≤ 1 → axes_in missing is ≤ n
filled_few missing n is total few = omega (arith, axes_filled missing is, once missing (ellipses_in is) few, total)
  where
    once : (m e : ℕ) → e ≤ 1 → m * e ≤ m
    once m zero le = omega arith
    once m (suc zero) le = omega arith
    once m (suc (suc e)) le = absurd (omega arith)

-- an array of another kind than Booleans has positions
pub other_kind : (k : code.Kind) → (k ≡ kinds.Bool → ⊥) → (shape : List ℕ) (zs : List ℤ) → kind_item (kind_of k) shape zs ≡ Numbers shape zs
other_kind kinds.Bool other shape zs = absurd (other refl)
other_kind kinds.I8 other shape zs = refl
other_kind kinds.I16 other shape zs = refl
other_kind kinds.I32 other shape zs = refl
other_kind kinds.I64 other shape zs = refl
other_kind kinds.U8 other shape zs = refl
other_kind kinds.U16 other shape zs = refl
other_kind kinds.U32 other shape zs = refl
other_kind kinds.U64 other shape zs = refl

-- where no item is refused, the numbers of the first one are inside
outside_any : (a b size : ℕ) (zs : List ℤ) → outside_fault a size zs ≡ None → outside_fault b size zs ≡ None
outside_any a b size [] e = refl
outside_any a b size (z ∷ zs) e =
    let parts = next_none (number_fault a size z) (outside_fault a size zs) e in
    rw (within_any (is_within size z) (OutOfBounds a z size) (OutOfBounds b z size) parts.0) (outside_any a b size zs parts.1)
  where
    within_any : (w : Bool) (f g : IndexFault) → cond w None (Some f) ≡ None → cond w None (Some g) ≡ None
    within_any true f g e = refl
    within_any false f g e = absurd cc

inside_item : (sizes : List ℕ) (axis : ℕ) (i : IndexItem) → bounds_fault sizes axis i ≡ None → IsInside (get_or sizes axis 0) i
inside_item sizes axis (Basic (At z)) e = within (is_within (get_or sizes axis 0) z) (OutOfBounds axis z (get_or sizes axis 0)) e
  where
    within : (b : Bool) (f : IndexFault) → cond b None (Some f) ≡ None → b ≡ true
    within true f e = refl
    within false f e = absurd cc
inside_item sizes axis (Basic (Slice a b c)) e = tt
inside_item sizes axis (Basic Ellipsis) e = tt
inside_item sizes axis (Basic NewAxis) e = tt
inside_item sizes axis (Numbers shape zs) e = λ b. outside_any axis b (get_or sizes axis 0) zs e
inside_item sizes axis (Mask shape bs) e = tt

pub inside_first : (sizes : List ℕ) (missing axis size : ℕ) (i : IndexItem) (is all : List IndexItem) → all ≡ i ∷ is → size ≡ get_or sizes axis 0 → first_fault (bounds_fault sizes) missing axis all ≡ None → IsInside size i
inside_first sizes missing axis size i is all first size_is e =
    let none = next_none (bounds_fault sizes axis i) _ (sym (ap (first_fault (bounds_fault sizes) missing axis) first) ∙ e) in
    subst (λ n. IsInside n i) (sym size_is) (inside_item sizes axis i none.0)

-- ---- the numbers of arrays are few

pub within : (b : Bool) (f : IndexFault) → cond b None (Some f) ≡ None → b ≡ true
within true f e = refl
within false f e = absurd cc

pub near_position : (size : ℕ) (z : ℤ) → size ≤ 2 ^ 32 → is_within size z ≡ true → counted_from size z ≤ 2 ^ 32
near_position size z few e = omega (arith, few, counted_below size z e)

pub near_positions : (axis size : ℕ) (zs : List ℤ) → size ≤ 2 ^ 32 → outside_fault axis size zs ≡ None → All (λ k. k ≤ 2 ^ 32) (map (counted_from size) zs)
near_positions axis size [] few e = All-nil (λ k. k ≤ 2 ^ 32)
near_positions axis size (z ∷ zs) few e =
    let parts = next_none (number_fault axis size z) (outside_fault axis size zs) e in
    All-cons (λ k. k ≤ 2 ^ 32) (counted_from size z) (map (counted_from size) zs) (near_position size z few (within (is_within size z) (OutOfBounds axis z size) parts.0))
    (near_positions axis size zs few parts.1)

pub near_trues : (from : ℕ) (bs : List Bool) → from + length bs ≤ 2 ^ 32 → All (λ k. k ≤ 2 ^ 32) (true_numbers from bs)
near_trues from [] few = All-nil (λ k. k ≤ 2 ^ 32)
near_trues from (true ∷ bs) few = All-cons (λ k. k ≤ 2 ^ 32) from (true_numbers (from + 1) bs) (omega (arith, few)) (near_trues (from + 1) bs (omega (arith, few)))
near_trues from (false ∷ bs) few = near_trues (from + 1) bs (omega (arith, few))
