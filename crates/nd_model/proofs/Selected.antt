-- What a basic index chooses of a view lies where the view lies.
use Rattle.std.proofs.Common.{◌≡◌, ℕ, zero, suc, ◌+◌, ◌-◌, ◌*◌, ◌/◌, ◌<◌, ◌≤◌, Bool, true, false, cond, List, [], ◌∷◌, ◌++◌, length, replicate, Option, Some, None, Result, Ok, ℤ, pos, negsuc, ◌+ℤ◌, refl, sym, ap, subst, ◌∙◌, inl, inr, arith, append-nil}
use Rattle.std.specs.Prelude.{int_lt, unsigned_abs, nat_lt, nat_le}
use Rattle.std.specs.List.{All}
use Rattle.std.proofs.lemmas.Bool.{cases_Bool}
use Rattle.std.proofs.lemmas.Bool.Decides.{nat_tests}
use Rattle.std.proofs.Math.Nat.{div-mul-le_self, mul-le-mul_right}
use Rattle.std.proofs.lemmas.Int.{ints}
use Rattle.std.proofs.lemmas.List.Elements.{All-nil, All-cons, All-map}
use Rattle.nd_model.specs.Arrays.Tuple.{count_up}
use Rattle.nd_model.specs.Arrays.View.{Geo, item_size}
use Rattle.nd_model.specs.Arrays.Strides.{limit_fault}
use Rattle.nd_model.specs.Cells.Fault.{Fault, ViewFault, IndexFault, OutOfBounds}
use Rattle.nd_model.specs.Cells.Refusing.{when}
use Rattle.nd_model.specs.Arrays.Broadcast.{unless_fault}
use Rattle.nd_model.specs.Indexing.Selecting.{counted_from, is_within}
use Rattle.nd_model.specs.Indexing.Slicing.{from_end, clipped, bound_or, step_or, steps, upwards, downwards, slice_positions}
use Rattle.nd_model.specs.Indexing.Selecting.{Item, At, Slice, Ellipsis, NewAxis, axes_in, whole_slice, filled_items, items_for, Pick, KeptAxis, OnePosition, AddedAxis, picks_of, first_outside, unless_outside, picked_shape, source, picked_view, select}
use Rattle.nd_model.specs.Cells.Sound.{LiesIn}
use Rattle.nd_model.proofs.Tuples.{IsTuple}
use Rattle.nd_model.proofs.Taking.{taking_within}

-- ---- picks of the axes with these lengths

abbrev pub AreFit : List Pick → List ℕ → Type 0
AreFit [] [] = Unit {0}
AreFit [] (n ∷ sizes) = ⊥
AreFit (KeptAxis ns ∷ qs) [] = ⊥
AreFit (KeptAxis ns ∷ qs) (n ∷ sizes) = All (λ p. p < n) ns × AreFit qs sizes
AreFit (OnePosition k ∷ qs) [] = ⊥
AreFit (OnePosition k ∷ qs) (n ∷ sizes) = (k < n) × AreFit qs sizes
AreFit (AddedAxis ∷ qs) sizes = AreFit qs sizes

pub source_tuple : (qs : List Pick) (sizes t : List ℕ) → AreFit qs sizes → IsTuple (picked_shape qs) t → IsTuple sizes (source qs t)
source_tuple [] [] t f h = tt
source_tuple [] (n ∷ sizes) t f h = absurd f
source_tuple (KeptAxis ns ∷ qs) [] t f h = absurd f
source_tuple (KeptAxis ns ∷ qs) (n ∷ sizes) [] f h = absurd h
source_tuple (KeptAxis ns ∷ qs) (n ∷ sizes) (i ∷ t) f h = (f.0 i 0 h.0, source_tuple qs sizes t f.1 h.1)
source_tuple (OnePosition k ∷ qs) [] t f h = absurd f
source_tuple (OnePosition k ∷ qs) (n ∷ sizes) t f h = (f.0, source_tuple qs sizes t f.1 h)
source_tuple (AddedAxis ∷ qs) sizes [] f h = absurd h
source_tuple (AddedAxis ∷ qs) sizes (i ∷ t) f h = source_tuple qs sizes t f h.1

-- ---- whole numbers and slices choose positions of their axis

pub counted_below : (n : ℕ) (z : ℤ) → is_within n z ≡ true → counted_from n z < n
counted_below n (pos m) h = grind (arith, nat_tests, ints)
counted_below n (negsuc m) h = grind (arith, nat_tests, ints)

all_counted : (P : ℕ → Type 0) (from many : ℕ) → ((k : ℕ) → from ≤ k → k < from + many → P k) → All P (count_up from many)
all_counted P from zero h = All-nil P
all_counted P from (suc many) h = All-cons P from _ (h from (omega arith) (omega arith)) (all_counted P (from + 1) many (λ k low high. h k (omega arith) (omega arith)))

step_up : (a b s k n : ℕ) → a < b → b ≤ n → k ≤ (b - a - 1) / s → a + k * s < n
step_up a b s k n lt le few = omega (arith, div-mul-le_self (b - a - 1) s, mul-le-mul_right s few)

counted_steps : (a b s k : ℕ) → k < steps a b s → (a < b) × (k ≤ (b - a - 1) / s)
counted_steps a b s k lt = elim (cases_Bool (nat_lt a b)) [
  | inl is ↦ let lt' : k < suc ((b - a - 1) / s) = rw is at lt in (grind (arith, nat_tests), omega arith)
  | inr other ↦ let lt' : k < 0 = rw other at lt in absurd (omega arith)
]

upwards_below : (a b s n : ℕ) → b ≤ n → All (λ p. p < n) (upwards a b s)
upwards_below a b s n le = All-map (λ p. p < n) (λ k. a + k * s) (count_up 0 (steps a b s)) (all_counted (λ k. a + k * s < n) 0 (steps a b s) (λ k low high.
    let few : (a < b) × (k ≤ (b - a - 1) / s) = counted_steps a b s k (omega arith) in step_up a b s k n few.0 le few.1))

downwards_below : (a b s n : ℕ) → a ≤ n → All (λ p. p < n) (downwards a b s)
downwards_below a b s n le = All-map (λ p. p < n) (λ k. a - 1 - k * s) (count_up 0 (steps b a s)) (all_counted (λ k. a - 1 - k * s < n) 0 (steps b a s) (λ k low high.
    let few : (b < a) × (k ≤ (a - b - 1) / s) = counted_steps b a s k (omega arith) in below a b (k * s) n few.0 le))
  where
    below : (a b x n : ℕ) → b < a → a ≤ n → a - 1 - x < n
    below a b x n lt le = omega arith

pub clipped_below : (n : ℕ) (z : ℤ) → clipped n z ≤ n
clipped_below n z = elim (int_lt z (pos 0)) as (λ t. cond t 0 (cond (nat_lt n (unsigned_abs z)) n (unsigned_abs z)) ≤ n) [
  | true ↦ omega arith
  | false ↦ elim (cases_Bool (nat_lt n (unsigned_abs z))) [ inl is ↦ rw is (omega arith) | inr other ↦ rw other (grind (arith, nat_tests)) ]
]

pub bound_below : (otherwise n more : ℕ) (o : Option ℤ) → otherwise ≤ n → bound_or otherwise n more o ≤ n
bound_below otherwise n more None le = le
bound_below otherwise n more (Some z) le = clipped_below n (from_end n z +ℤ pos more)

-- also where the step is 0
pub slice_below : (n : ℕ) (start stop : Option ℤ) (step : ℤ) → All (λ p. p < n) (slice_positions n start stop step)
slice_below n start stop (pos s) = upwards_below (bound_or 0 n 0 start) (bound_or n n 0 stop) s n (bound_below n n 0 stop (omega arith))
slice_below n start stop (negsuc s) = downwards_below (bound_or n n 1 start) (bound_or 0 n 1 stop) (suc s) n (bound_below n n 1 start (omega arith))

-- ---- the items of an index that stands for all axes

within_all : (b : Bool) (f : IndexFault) (next : Option IndexFault) → cond b next (Some f) ≡ None → (b ≡ true) × (next ≡ None)
within_all true f next e = (refl, e)
within_all false f next e = absurd (cc)

pub picks_fit : (is : List Item) (axis : ℕ) (sizes : List ℕ) → axes_in is ≡ length sizes → first_outside is axis sizes ≡ None → AreFit (picks_of is sizes) sizes
picks_fit [] axis [] count e = tt
picks_fit [] axis (n ∷ sizes) count e = absurd (omega arith)
picks_fit (At z ∷ is) axis [] count e = absurd (omega arith)
picks_fit (At z ∷ is) axis (n ∷ sizes) count e =
    let parts = within_all (is_within n z) (OutOfBounds axis z n) (first_outside is (axis + 1) sizes) e in
    (counted_below n z parts.0, picks_fit is (axis + 1) sizes (omega arith) parts.1)
picks_fit (Slice start stop step ∷ is) axis [] count e = absurd (omega arith)
picks_fit (Slice start stop step ∷ is) axis (n ∷ sizes) count e = (slice_below n start stop (step_or step), picks_fit is (axis + 1) sizes (omega arith) e)
picks_fit (Ellipsis ∷ is) axis sizes count e = picks_fit is (axis + 0) sizes (omega arith) e
picks_fit (NewAxis ∷ is) axis sizes count e = picks_fit is (axis + 0) sizes (omega arith) e

pub slices_axes : (m : ℕ) (is : List Item) → axes_in (replicate m whole_slice ++ is) ≡ m + axes_in is
slices_axes zero is = omega arith
slices_axes (suc m) is = omega (arith, slices_axes m is)

pub filled_axes : (m : ℕ) (is : List Item) → axes_in (filled_items m is) ≡ m + axes_in is
filled_axes m [] = ap axes_in (sym (append-nil (replicate m whole_slice))) ∙ slices_axes m []
filled_axes m (At z ∷ is) = omega (arith, filled_axes m is)
filled_axes m (Slice start stop step ∷ is) = omega (arith, filled_axes m is)
filled_axes m (Ellipsis ∷ is) = slices_axes m is ∙ none m (axes_in is)
  where
    none : (m n : ℕ) → m + n ≡ m + (0 + n)
    none m n = omega arith
filled_axes m (NewAxis ∷ is) = omega (arith, filled_axes m is)

pub filled_whole : (shape : List ℕ) (is : List Item) → axes_in is ≤ length shape → axes_in (items_for shape is) ≡ length shape
filled_whole shape is le = omega (arith, filled_axes (length shape - axes_in is) is)

-- ---- what is chosen

when_ok : {A : Type 0} (b : Bool) (f : Fault) (x : Result A Fault) (y : A) → when b f x ≡ Ok y → (b ≡ true) × (x ≡ Ok y)
when_ok true f x y e = (refl, e)
when_ok false f x y e = absurd (cc)

pub outside_ok : {A : Type 0} (o : Option IndexFault) (x : Result A Fault) (y : A) → unless_outside o x ≡ Ok y → (o ≡ None) × (x ≡ Ok y)
outside_ok None x y e = (refl, e)
outside_ok (Some f) x y e = absurd (cc)

unless_ok : {A : Type 0} (o : Option ViewFault) (x : Result A Fault) (y : A) → unless_fault o x ≡ Ok y → (o ≡ None) × (x ≡ Ok y)
unless_ok None x y e = (refl, e)
unless_ok (Some f) x y e = absurd (cc)

ok_same : {A : Type 0} (x y : A) → ◌≡◌ {A = Result A Fault} (Ok x) (Ok y) → x ≡ y
ok_same x y e = cc

pub selected_lies : (is : List Item) (g h : Geo) (len : ℕ) → LiesIn len g → select is g ≡ Ok h → LiesIn len h
selected_lies is g h len lies e =
    let all : List Item = items_for g.shape is in
    let qs : List Pick = picks_of all g.shape in
    let one = when_ok _ _ _ h e in
    let few = when_ok (nat_le (axes_in is) (length g.shape)) _ _ h one.1 in
    let stepped = when_ok _ _ _ h few.1 in
    let inside = outside_ok (first_outside all 0 g.shape) _ h stepped.1 in
    let limited = unless_ok (limit_fault (item_size g.element) (picked_shape qs)) _ h inside.1 in
    let whole : axes_in all ≡ length g.shape = filled_whole g.shape is (below (axes_in is) (length g.shape) few.0) in
    let fit : AreFit qs g.shape = picks_fit all 0 g.shape whole inside.0 in
    let within = taking_within len g (picked_shape qs) (source qs) lies (λ t is. source_tuple qs g.shape t fit is) in
    subst (LiesIn len) (ok_same (picked_view g qs) h limited.1) (record { count = within.0; limits = limited.0; inside = within.1 })
  where
    below : (m n : ℕ) → nat_le m n ≡ true → m ≤ n
    below m n e = grind (arith, nat_tests)
