-- Products of lengths, and the tuple of a number, axis by axis.
use Rattle.std.proofs.Common.{◌≡◌, ℕ, zero, suc, ◌+◌, ◌*◌, ◌/◌, ◌%◌, ◌<◌, ◌≤◌, List, [], ◌∷◌, length, take, drop, get_or, sym, ap, ◌∙◌, arith}
use Rattle.std.specs.Prelude.{ℤ, pos, ◌+ℤ◌, ◌*ℤ◌}
use Rattle.std.proofs.Math.Nat.{mul_assoc, mul-div_cancel_left}
use Rattle.std.proofs.lemmas.Int.{ints}
use Rattle.nd_model.specs.Indexing.Advanced.{unravelled}
use Rattle.nd_model.specs.Arrays.Strides.{way_to}
use Rattle.nd_model.specs.Arrays.Tuple.{elements_of}
use Rattle.nd_places.proofs.Fronts.{drop_one}

pub elements_split : (a : ℕ) (shape : List ℕ) → elements_of shape ≡ elements_of (take a shape) * elements_of (drop a shape)
elements_split zero shape = omega arith
elements_split (suc a) [] = omega arith
elements_split (suc a) (n ∷ shape) =
    ap (λ k. n * k) (elements_split a shape) ∙ sym (mul_assoc n (elements_of (take a shape)) (elements_of (drop a shape)))

pub parts_few : (x y z : ℕ) → z ≡ x * y → 0 < z → ((0 < x) × (x ≤ z)) × ((0 < y) × (y ≤ z))
parts_few zero y z e some = absurd (omega (arith, e))
parts_few (suc x) zero z e some = absurd (omega (arith, e))
parts_few (suc x) (suc y) z e some = ((omega arith, omega (arith, e)), (omega arith, omega (arith, e)))

-- some axes together have elements, and no more than all
pub some_of : (k a : ℕ) (shape : List ℕ) → 0 < elements_of shape → (0 < elements_of (take a (drop k shape))) × (elements_of (take a (drop k shape)) ≤ elements_of shape)
some_of k a shape some =
    let behind = (parts_few (elements_of (take k shape)) (elements_of (drop k shape)) (elements_of shape) (elements_split k shape) some).1 in
    let front = (parts_few (elements_of (take a (drop k shape))) (elements_of (drop a (drop k shape))) (elements_of (drop k shape)) (elements_split a (drop k shape)) behind.0).0 in
    (front.0, omega (arith, front.1, behind.1))

-- the elements behind an axis
pub each_next : (shape : List ℕ) (axis each : ℕ) → axis < length shape → each ≡ elements_of (drop axis shape) → 0 < each
    → (0 < get_or shape axis 0) × (each / get_or shape axis 0 ≡ elements_of (drop (axis + 1) shape)) × (0 < elements_of (drop (axis + 1) shape))
each_next shape axis each lt e some = by (get_or shape axis 0) (elements_of (drop (axis + 1) shape)) (e ∙ ap elements_of (drop_one shape axis 0 lt))
  where
    by : (n r : ℕ) → each ≡ n * r → (0 < n) × (each / n ≡ r) × (0 < r)
    by zero r e = absurd (omega (arith, e, some))
    by (suc n) zero e = absurd (omega (arith, e, some))
    by (suc n) (suc r) e = (omega arith, ap (λ k. k / suc n) e ∙ mul-div_cancel_left (suc r) {n = suc n} (omega arith), omega arith)

-- the way of a number, one axis further
pub way_next : (shape : List ℕ) (strides : List ℤ) (axis left : ℕ) → axis < length shape → axis < length strides
    → way_to (unravelled (drop axis shape) left) (drop axis strides)
    ≡ (pos (left / elements_of (drop (axis + 1) shape)) *ℤ get_or strides axis (pos 0)) +ℤ way_to (unravelled (drop (axis + 1) shape) (left % elements_of (drop (axis + 1) shape))) (drop (axis + 1) strides)
way_next shape strides axis left lt lt' =
    λ i. way_to (unravelled (drop_one shape axis 0 lt i) left) (drop_one strides axis (pos 0) lt' i)

pub way_onward : (way x old new whole : ℤ) → old ≡ x +ℤ new → way +ℤ old ≡ whole → (way +ℤ x) +ℤ new ≡ whole
way_onward way x old new whole next so_far = omega (arith, ints, next, so_far)

-- of one axis alone
pub way_alone : (shape : List ℕ) (strides : List ℤ) (k : ℕ) → length shape ≡ length strides → length strides ≡ 1 → way_to (unravelled shape k) strides ≡ pos k *ℤ get_or strides 0 (pos 0)
way_alone [] strides k same one = absurd (omega (arith, same, one))
way_alone (n ∷ shape) [] k same one = absurd (omega (arith, one))
way_alone (n ∷ m ∷ shape) (s ∷ strides) k same one = absurd (omega (arith, same, one))
way_alone (n ∷ []) (s ∷ strides) k same one = let whole : k / 1 ≡ k = omega arith in ap (λ j. (pos j *ℤ s) +ℤ pos 0) whole ∙ stays (pos k *ℤ s)
  where
    stays : (z : ℤ) → z +ℤ pos 0 ≡ z
    stays z = omega (arith, ints)
