-- Quotients that are rounded down, powers and shifts of whole numbers.
use Rattle.std.proofs.Common.{FitsSigned, ◌≡◌, ◌≢◌, ℕ, zero, suc, ◌-◌, ◌*◌, ◌/◌, ◌^◌, ◌<◌, ◌≤◌, Bool, true, false, cond, refl, sym, ap, ◌∙◌, arith}
use Rattle.std.specs.Prelude.{ℤ, pos, negsuc, neg_ℤ, ◌+ℤ◌, ◌-ℤ◌, ◌*ℤ◌, not, ◌==◌, ◌%◌, unsigned_abs}
use Rattle.std.specs.Int.{int_div_euclid, int_rem_euclid, int_pow}
use Rattle.std.proofs.lemmas.Bool.Decides.{nat_tests}
use Rattle.std.proofs.Math.Nat.{div-eq_of_lt, pow-le-pow_left}
use Rattle.std.proofs.Math.Pow.{pow_mono}
use Rattle.std.proofs.lemmas.Grind.{pow_more}
use Rattle.std.specs.Int.{w128, cast_unsigned, IsNonNegative}
use Rattle.nd_model.specs.Making.Operators.{floor_quotient, floor_remainder, is_below, is_negative, is_zero}

pub quotient_below : (a b : ℤ) → is_below a b ≡ true → floor_quotient a b ≡ int_div_euclid a b -ℤ pos 1
quotient_below a b e = rw e refl

pub quotient_whole : (a b : ℤ) → is_below a b ≡ false → floor_quotient a b ≡ int_div_euclid a b
quotient_whole a b e = rw e refl

pub remainder_below : (a b : ℤ) → is_below a b ≡ true → floor_remainder a b ≡ int_rem_euclid a b +ℤ b
remainder_below a b e = rw e refl

pub remainder_whole : (a b : ℤ) → is_below a b ≡ false → floor_remainder a b ≡ int_rem_euclid a b
remainder_whole a b e = rw e refl

pub below_if : (a b : ℤ) → is_negative b ≡ true → is_below a b ≡ not (is_zero (int_rem_euclid a b))
below_if a (pos b) e = absurd cc
below_if a (negsuc b) e = refl

pub below_only : (a b : ℤ) → is_negative b ≡ false → is_below a b ≡ false
below_only a (pos b) e = refl
below_only a (negsuc b) e = absurd cc

pub zero_test : (z : ℤ) → IsNonNegative z → (cast_unsigned w128 z == 0) ≡ is_zero z
zero_test (pos n) h = refl
zero_test (negsuc n) h = absurd h

-- ---- powers

pub pow-zero_base : (n : ℕ) → 0 < n → 0 ^ n ≡ 0
pow-zero_base zero h = absurd (omega arith)
pow-zero_base (suc n) h = omega (arith, pow_more 0 n)

pub pow-one_base : (n : ℕ) → 1 ^ n ≡ 1
pow-one_base zero = refl
pow-one_base (suc n) = omega (arith, pow_more 1 n, pow-one_base n)

minus_if : (t : Bool) (n : ℕ) → (n % 2 == 0) ≡ t → int_pow (negsuc 0) n ≡ cond t (pos 1) (negsuc 0)
minus_if true n e = rw e (ap pos (pow-one_base n))
minus_if false n e = rw e (ap (λ m. neg_ℤ (pos m)) (pow-one_base n))

pub minus_even : (n : ℕ) → n % 2 ≡ 0 → int_pow (negsuc 0) n ≡ pos 1
minus_even n h = minus_if true n (ap (λ m. m == 0) h)

pub minus_odd : (n : ℕ) → n % 2 ≢ 0 → int_pow (negsuc 0) n ≡ negsuc 0
minus_odd n h = minus_if false n (grind (arith, nat_tests))

abs_neg : (m : ℕ) → unsigned_abs (neg_ℤ (pos m)) ≡ m
abs_neg zero = refl
abs_neg (suc m) = refl

abs_either : (t : Bool) (m : ℕ) → unsigned_abs (cond t (pos m) (neg_ℤ (pos m))) ≡ m
abs_either true m = refl
abs_either false m = abs_neg m

pub unsigned_abs-pow : (z : ℤ) (n : ℕ) → unsigned_abs (int_pow z n) ≡ unsigned_abs z ^ n
unsigned_abs-pow (pos a) n = refl
unsigned_abs-pow (negsuc a) n = abs_either _ (suc a ^ n)

-- neither 0 nor 1 nor -1
pub large_base : (z : ℤ) → FitsSigned w128 z → (cast_unsigned w128 z ≡ 0 → ⊥) → (cast_unsigned w128 z ≡ 1 → ⊥) → (cast_unsigned w128 z ≡ 2 ^ 128 - 1 → ⊥) → 2 ≤ unsigned_abs z
large_base (pos zero) fits none one minus = absurd (none refl)
large_base (pos (suc zero)) fits none one minus = absurd (one refl)
large_base (pos (suc (suc n))) fits none one minus = omega arith
large_base (negsuc zero) fits none one minus = absurd (minus refl)
large_base (negsuc (suc n)) fits none one minus = omega arith

-- ---- shifts

pub zero_is : (z : ℤ) → FitsSigned w128 z → (cast_unsigned w128 z == 0) ≡ is_zero z
zero_is (pos n) fits = refl
zero_is (negsuc n) fits = let some : 2 ^ 128 - suc n ≢ 0 = omega (arith, fits.sfits) in grind (arith, nat_tests)

pub not_zero : (z : ℤ) → (cast_unsigned w128 z ≡ 0 → ⊥) → 1 ≤ unsigned_abs z
not_zero (pos zero) h = absurd (h refl)
not_zero (pos (suc n)) h = omega arith
not_zero (negsuc n) h = omega arith

-- all bits are shifted out
pub out_above : (z : ℤ) (n : ℕ) → FitsSigned w128 z → 126 < n → is_negative z ≡ false → floor_quotient z (pos (2 ^ n)) ≡ pos 0
out_above (pos a) n fits many e = ap pos (div-eq_of_lt (omega (arith, fits.sfits, pow_mono {i = 127} {j = n} many)))
out_above (negsuc a) n fits many e = absurd cc

pub out_below : (z : ℤ) (n : ℕ) → FitsSigned w128 z → 126 < n → is_negative z ≡ true → floor_quotient z (pos (2 ^ n)) ≡ negsuc 0
out_below (pos a) n fits many e = absurd cc
out_below (negsuc a) n fits many e = ap negsuc (div-eq_of_lt (omega (arith, fits.sfits, pow_mono {i = 127} {j = n} many)))

fits_below : (z : ℤ) → FitsSigned w128 z → unsigned_abs z ≤ 2 ^ 127
fits_below (pos n) fits = omega (arith, fits.sfits)
fits_below (negsuc n) fits = omega (arith, fits.sfits)

-- a power of more than 128 bits
pub large_power : (z : ℤ) (n : ℕ) → 2 ≤ unsigned_abs z → 128 ≤ n → FitsSigned w128 (int_pow z n) → ⊥
large_power z n some many fits =
    absurd (omega (arith, fits_below (int_pow z n) fits, unsigned_abs-pow z n, pow-le-pow_left some n, pow_mono {i = 128} {j = n} many))

-- ---- quotients by minus one

pub quotient_minus : (z : ℤ) → floor_quotient z (negsuc 0) ≡ neg_ℤ z
quotient_minus (pos a) =
    let none : (a % 1 == 0) ≡ true = grind (arith, nat_tests) in let same : a / 1 ≡ a = omega arith in
    quotient_whole (pos a) (negsuc 0) (ap not none) ∙ ap (λ n. neg_ℤ (pos n)) same
quotient_minus (negsuc a) =
    let none : (1 - 1 - a % 1 == 0) ≡ true = grind (arith, nat_tests) in let same : a / 1 ≡ a = omega arith in
    quotient_whole (negsuc a) (negsuc 0) (ap not none) ∙ ap (λ n. pos (suc n)) same
