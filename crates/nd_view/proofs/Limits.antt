-- What the limits of arrays say.
use Rattle.std.proofs.Common.{◌≡◌, ℕ, ◌*◌, ◌^◌, ◌≤◌, Bool, true, false, List, length, refl, arith}
use Rattle.std.specs.Prelude.{◌||◌, nat_lt, Some, None, if◌then◌else◌}
use Rattle.std.specs.List.{list_any}
use Rattle.std.proofs.lemmas.Bool.Decides.{nat_tests}
use Rattle.nd_model.specs.Cells.Fault.{TooManyAxes, TooManyElements}
use Rattle.nd_model.specs.Arrays.Strides.{is_too_large, IsInLimits}
use Rattle.nd_model.specs.Arrays.Tuple.{elements_of}

pub record AreLimited (size : ℕ) (shape : List ℕ) : Type 0 where
  pub axes : length shape ≤ 32
  pub lengths : list_any (nat_lt (2 ^ 32)) shape ≡ false
  pub elements : elements_of shape ≤ 2 ^ 24
  pub bytes : elements_of shape * size ≤ 2 ^ 27

tests_of : (long large : Bool) → (if long then Some TooManyAxes else (if large then Some TooManyElements else None)) ≡ None → (long ≡ false) × (large ≡ false)
tests_of true large e = cc
tests_of false true e = cc
tests_of false false e = (refl, refl)

either : (a b : Bool) → (a || b) ≡ false → (a ≡ false) × (b ≡ false)
either true b e = cc
either false b e = (refl, e)

pub limits_of : (size : ℕ) (shape : List ℕ) → IsInLimits size shape → AreLimited size shape
limits_of size shape none =
    let tests = tests_of (nat_lt 32 (length shape)) (is_too_large size shape) none in
    let large = either (list_any (nat_lt (2 ^ 32)) shape) (nat_lt (2 ^ 24) (elements_of shape) || nat_lt (2 ^ 27) (elements_of shape * size)) tests.1 in
    let sums = either (nat_lt (2 ^ 24) (elements_of shape)) (nat_lt (2 ^ 27) (elements_of shape * size)) large.1 in
    let axes : length shape ≤ 32 = below 32 (length shape) tests.0 in
    record { axes = axes; lengths = large.0; elements = below (2 ^ 24) (elements_of shape) sums.0; bytes = below (2 ^ 27) (elements_of shape * size) sums.1 }
  where
    below : (m n : ℕ) → nat_lt m n ≡ false → n ≤ m
    below m n e = grind (arith, nat_tests)
