-- The same elements in another shape are in the limits of arrays, and lie where the view lies.
use Rattle.std.proofs.Common.{◌≡◌, ℕ, zero, suc, ◌*◌, ◌/◌, ◌≤◌, ◌^◌, Bool, true, false, ◌&&◌, ◌||◌, ℤ, pos, negsuc, List, [], ◌∷◌, length, Result, Ok, Err, refl, sym, ap, subst, ◌∙◌, inl, inr, arith, eqb-true}
use Rattle.std.specs.Prelude.{◌≤ℤ◌, int_le, nat_lt, unsigned_abs, ◌==◌, if◌then◌else◌, Some, None}
use Rattle.std.specs.List.{All, list_all, list_any}
use Rattle.std.proofs.Math.Nat.{div-mul-le_self, div-zero}
use Rattle.std.proofs.lemmas.Bool.{cases_Bool}
use Rattle.std.proofs.lemmas.Bool.Decides.{nat_tests}
use Rattle.std.proofs.lemmas.Int.{ints}
use Rattle.std.proofs.lemmas.List.{length-map}
use Rattle.nd_model.specs.Cells.Fault.{Fault, Shape, TooManyAxes, TooManyElements}
use Rattle.nd_model.specs.Arrays.Strides.{IsInLimits, is_too_large}
use Rattle.nd_model.specs.Arrays.Tuple.{elements_of}
use Rattle.nd_model.specs.Arrays.View.{Geo, item_size}
use Rattle.nd_model.specs.Indexing.ShapeFault.{TwoUnknown, SizeMismatch}
use Rattle.nd_model.specs.Indexing.Reshaping.{is_unknown, is_length, is_left, unknowns, length_or, lengths_with, known_elements, shape_for, is_even, Reshaped, View, Copy, reshaped_or, reshape}
use Rattle.nd_model.specs.Cells.Sound.{LiesIn}
use Rattle.nd_model.proofs.Taking.{IsWithin}
use Rattle.nd_model.proofs.Transposed.{both, when_ok, ok_same}

pub record IsShapeFor (count : ℕ) (zs : List ℤ) (shape : List ℕ) : Type 0 where
  pub elements : elements_of shape ≡ count
  pub lengths : lengths_with (count / known_elements zs) zs ≡ shape
  pub known : list_all is_length zs ≡ true

pub shape_facts : (count : ℕ) (zs : List ℤ) (shape : List ℕ) → shape_for count zs ≡ Ok shape → IsShapeFor count zs shape
shape_facts count zs shape e =
    let own : List ℕ = lengths_with (count / known_elements zs) zs in
    let few = when_ok (nat_lt (unknowns zs) 2) (Shape TwoUnknown) _ shape e in
    let fits = when_ok (list_all is_length zs && (is_left zs && (elements_of own == count))) (Shape SizeMismatch) (Ok own) shape few.1 in
    let one = both (list_all is_length zs) (is_left zs && (elements_of own == count)) fits.0 in
    let two = both (is_left zs) (elements_of own == count) one.1 in
    let same : own ≡ shape = ok_same own shape fits.1 in
    record { elements = ap elements_of (sym same) ∙ eqb-true (elements_of own) count two.1; lengths = same; known = one.0 }

-- ---- limits

pub length_below : (left : ℕ) (z : ℤ) → is_length z ≡ true → z ≤ℤ pos (2 ^ 32) → left ≤ 2 ^ 32 → length_or left z ≤ 2 ^ 32
length_below left z is le le' = elim (cases_Bool (is_unknown z)) [
  | inl unknown ↦ rw unknown le'
  | inr other ↦ rw other (known z (rw other at is) le)
]
  where
    known : (z : ℤ) → int_le (pos 0) z ≡ true → z ≤ℤ pos (2 ^ 32) → unsigned_abs z ≤ 2 ^ 32
    known (pos m) low high = omega (arith, ints, high)
    known (negsuc m) low high = absurd (cc)

short_all : (left : ℕ) (zs : List ℤ) → list_all is_length zs ≡ true → All (λ z. z ≤ℤ pos (2 ^ 32)) zs → left ≤ 2 ^ 32 → list_any (nat_lt (2 ^ 32)) (lengths_with left zs) ≡ false
short_all left [] known all le = refl
short_all left (z ∷ zs) known all le =
    let parts = both (is_length z) (list_all is_length zs) known in
    let first : length_or left z ≤ 2 ^ 32 = length_below left z parts.0 (all 0 z (omega arith)) le in
    let test : nat_lt (2 ^ 32) (length_or left z) ≡ false = not_below (2 ^ 32) (length_or left z) first in
    rw test (short_all left zs parts.1 (λ k d lt. all (suc k) d (omega arith)) le)
  where
    not_below : (a b : ℕ) → b ≤ a → nat_lt a b ≡ false
    not_below a b le = grind (arith, nat_tests)

none_of : (long large : Bool) → (if long then Some TooManyAxes else (if large then Some TooManyElements else None)) ≡ None → (long ≡ false) × (large ≡ false)
none_of true large e = absurd (cc)
none_of false true e = absurd (cc)
none_of false false e = (refl, refl)

either : (a b : Bool) → (a || b) ≡ false → (a ≡ false) × (b ≡ false)
either true b e = absurd (cc)
either false b e = (refl, e)

pub same_limits : (size : ℕ) (old shape : List ℕ) (zs : List ℤ) → IsInLimits size old → IsShapeFor (elements_of old) zs shape → length zs ≤ 32 → All (λ z. z ≤ℤ pos (2 ^ 32)) zs → IsInLimits size shape
same_limits size old shape zs limits is few short =
    let tests = none_of (nat_lt 32 (length old)) (is_too_large size old) limits in
    let large = either (list_any (nat_lt (2 ^ 32)) old) (nat_lt (2 ^ 24) (elements_of old) || nat_lt (2 ^ 27) (elements_of old * size)) tests.1 in
    let sums = either (nat_lt (2 ^ 24) (elements_of old)) (nat_lt (2 ^ 27) (elements_of old * size)) large.1 in
    let count : elements_of old ≤ 2 ^ 24 = below (2 ^ 24) (elements_of old) sums.0 in
    let left : elements_of old / known_elements zs ≤ 2 ^ 32 = quotient (elements_of old) (known_elements zs) count in
    let axes : nat_lt 32 (length shape) ≡ false = short_list (length shape) (λ i. length (sym is.lengths i)) in
    let lengths : list_any (nat_lt (2 ^ 32)) shape ≡ false = ap (list_any (nat_lt (2 ^ 32))) (sym is.lengths) ∙ short_all (elements_of old / known_elements zs) zs is.known short left in
    let elements : nat_lt (2 ^ 24) (elements_of shape) ≡ false = ap (nat_lt (2 ^ 24)) is.elements ∙ sums.0 in
    let bytes : nat_lt (2 ^ 27) (elements_of shape * size) ≡ false = ap (λ n. nat_lt (2 ^ 27) (n * size)) is.elements ∙ sums.1 in
    rw (axes, lengths, elements, bytes) refl
  where
    below : (a b : ℕ) → nat_lt a b ≡ false → b ≤ a
    below a b e = grind (arith, nat_tests)

    quotient : (a b : ℕ) → a ≤ 2 ^ 24 → a / b ≤ 2 ^ 32
    quotient a zero le = omega (arith, div-zero a)
    quotient a (suc b) le = let whole : a / suc b * suc b ≤ a = div-mul-le_self a (suc b) in let own : a / suc b ≤ a / suc b * suc b = at_least (a / suc b) b in omega (arith, whole, own)
      where
        at_least : (q b : ℕ) → q ≤ q * suc b
        at_least q b = omega arith

    short_list : (n : ℕ) → n ≡ length (lengths_with (elements_of old / known_elements zs) zs) → nat_lt 32 n ≡ false
    short_list n e = let le : n ≤ 32 = omega (arith, e, length-map zs (length_or (elements_of old / known_elements zs)), few) in test 32 n le
      where
        test : (a b : ℕ) → b ≤ a → nat_lt a b ≡ false
        test a b le = grind (arith, nat_tests)

-- ---- views

found : (g h : Geo) (b : Bool) (shape : List ℕ) → ◌≡◌ {A = Result Reshaped Fault} (Ok (if b then View (record g { shape = shape }) else Copy shape)) (Ok (View h)) → record g { shape = shape } ≡ h
found g h true shape e = cc
found g h false shape e = absurd (cc)

pub reshaped_within : (zs : List ℤ) (g h : Geo) (len : ℕ) → LiesIn len g → reshape zs g ≡ Ok (View h) → IsWithin len h
reshaped_within zs g h len lies e = by (shape_for (elements_of g.shape) zs) refl e
  where
    by : (o : Result (List ℕ) Fault) → shape_for (elements_of g.shape) zs ≡ o → reshaped_or g o ≡ Ok (View h) → IsWithin len h
    by (Ok shape) is made =
        let facts = shape_facts (elements_of g.shape) zs shape is in
        subst (IsWithin len) (found g h (is_even shape g.places) shape made) (lies.count ∙ sym facts.elements, lies.inside)
    by (Err f) is made = absurd (cc)

pub reshaped_lies : (zs : List ℤ) (g h : Geo) (len : ℕ) → length zs ≤ 32 → All (λ z. z ≤ℤ pos (2 ^ 32)) zs → LiesIn len g → reshape zs g ≡ Ok (View h) → LiesIn len h
reshaped_lies zs g h len few short lies e = by (shape_for (elements_of g.shape) zs) refl e
  where
    by : (o : Result (List ℕ) Fault) → shape_for (elements_of g.shape) zs ≡ o → reshaped_or g o ≡ Ok (View h) → LiesIn len h
    by (Ok shape) is made =
        let facts = shape_facts (elements_of g.shape) zs shape is in
        subst (LiesIn len) (found g h (is_even shape g.places) shape made) (record {
          count = lies.count ∙ sym facts.elements;
          limits = same_limits (item_size g.element) g.shape shape zs lies.limits facts few short;
          inside = lies.inside;
        })
    by (Err f) is made = absurd (cc)
