-- What is stored is read back, and what a number wraps to. Each lemma is one over the width.
use Rattle.std.proofs.Common.{◌≡◌, ℕ, zero, suc, ◌-◌, ◌*◌, ◌%◌, ◌^◌, ◌<◌, ◌≤◌, Bool, true, false, length, ℤ, pos, negsuc, neg_ℤ, ◌≤ℤ◌, refl, sym, ap, ◌∙◌, subst, arith}
use Rattle.std.specs.Prelude.{unsigned_abs, if◌then◌else◌}
use Rattle.std.specs.Int.{Width, w8, w16, w32, w64, w128, byte_len, cast_signed, cast_unsigned, int_rem_euclid, int_wrap, bytes_low_first, bytes_high_first}
use Rattle.std.specs.Int.RustNames.{FitsSigned}
use mir.Val.{bits, hbits}
use native.Mathlib.Nat.{mod-lt, mod-eq_of_lt}
use lib.Dec.{leb→le}
use lib.Pow.{pow_pos}
use Rattle.std.proofs.lemmas.Nat.{from_le_bytes-to_le_bytes_2, from_be_bytes-to_be_bytes_2, from_le_bytes-to_le_bytes_4, from_be_bytes-to_be_bytes_4, from_le_bytes-to_le_bytes_8, from_be_bytes-to_be_bytes_8}
use Rattle.std.proofs.lemmas.Int.{of_z-to_z, int_wrap_fits, SFits-int_wrap, ints}
use borrow.Author.Differences.{fits_in}
use Rattle.nd_model.specs.Arrays.Element.{Kind, Boolean, Int8, Int16, Int32, Int64, UInt8, UInt16, UInt32, UInt64, Element, width_of, size_of, lowest, highest, IsValue, number_in, value_in, bytes_in, bytes_of, residue, wrap, RoundTrip}

-- eight bits a byte
pub bits_are : (w : Width) → 8 * byte_len w ≡ bits w
bits_are w8 = refl
bits_are w16 = refl
bits_are w32 = refl
bits_are w64 = refl
bits_are w128 = refl

pub residue_small : (w : Width) (z : ℤ) → residue w z < 2 ^ (8 * byte_len w)
residue_small w (pos n) = mod-lt n (pow_pos (8 * byte_len w))
residue_small w (negsuc n) = let some = pow_pos (8 * byte_len w) in omega arith

-- ---- signed kinds

pub signed_residue : (w : Width) (z : ℤ) → cast_signed w (residue w z) ≡ int_wrap w z
unfolding int_wrap
signed_residue w z = ap (λ k. cast_signed w (unsigned_abs (int_rem_euclid z (pos (2 ^ k))))) (bits_are w)

-- the residue of a signed number is its two's complement
pub residue_signed : (w : Width) (z : ℤ) → FitsSigned w z → residue w z ≡ cast_unsigned w z
residue_signed w z fits =
    let small : residue w z < 2 ^ bits w = subst (λ k. residue w z < 2 ^ k) (bits_are w) (residue_small w z) in
    sym (of_z-to_z w (residue w z) small) ∙ ap (cast_unsigned w) (signed_residue w z ∙ int_wrap_fits w z fits)

fits_by_bounds : (w : Width) (z : ℤ) → neg_ℤ (pos (2 ^ hbits w)) ≤ℤ z → z ≤ℤ pos (2 ^ hbits w - 1) → FitsSigned w z
fits_by_bounds w z low high = omega (arith, ints, fits_in, pow_pos (hbits w))

signed_value : (w : Width) (z : ℤ) → FitsSigned w z → cast_signed w (residue w z) ≡ z
signed_value w z fits = signed_residue w z ∙ int_wrap_fits w z fits

signed_in : (w : Width) (z : ℤ) → (neg_ℤ (pos (2 ^ hbits w)) ≤ℤ cast_signed w (residue w z)) × (cast_signed w (residue w z) ≤ℤ pos (2 ^ hbits w - 1))
signed_in w z =
    let fits : FitsSigned w (cast_signed w (residue w z)) = subst (FitsSigned w) (sym (signed_residue w z)) (SFits-int_wrap w z) in
    (omega (arith, ints, fits_in, pow_pos (hbits w)), omega (arith, ints, fits_in, pow_pos (hbits w)))

-- ---- unsigned kinds

unsigned_value : (w : Width) (z : ℤ) → pos 0 ≤ℤ z → z ≤ℤ pos (2 ^ (8 * byte_len w) - 1) → pos (residue w z) ≡ z
unsigned_value w (pos n) low high =
    let few : n ≤ 2 ^ (8 * byte_len w) - 1 = leb→le n _ high.le in let some = pow_pos (8 * byte_len w) in
    ap pos (mod-eq_of_lt (omega arith))
unsigned_value w (negsuc n) low high = absurd low.le

unsigned_in : (w : Width) (z : ℤ) → (pos 0 ≤ℤ pos (residue w z)) × (pos (residue w z) ≤ℤ pos (2 ^ (8 * byte_len w) - 1))
unsigned_in w z = let small = residue_small w z in (omega (arith, ints), omega (arith, ints))

-- ---- Booleans

truth : (z : ℤ) → IsValue Boolean z → (value_in Boolean (residue w8 z) ≡ z) × (wrap Boolean z ≡ z)
truth (pos zero) is = (refl, refl)
truth (pos (suc zero)) is = (refl, refl)
truth (pos (suc (suc n))) is = let few : suc (suc n) ≤ 1 = leb→le (suc (suc n)) 1 is.high.le in absurd (omega arith)
truth (negsuc n) is = absurd is.low.le

-- ---- all kinds

-- a value is what the kind makes of its residue
pub value_residue : (k : Kind) (z : ℤ) → IsValue k z → value_in k (residue (width_of k) z) ≡ z
value_residue Boolean z is = (truth z is).0
value_residue Int8 z is = signed_value w8 z (fits_by_bounds w8 z is.low is.high)
value_residue Int16 z is = signed_value w16 z (fits_by_bounds w16 z is.low is.high)
value_residue Int32 z is = signed_value w32 z (fits_by_bounds w32 z is.low is.high)
value_residue Int64 z is = signed_value w64 z (fits_by_bounds w64 z is.low is.high)
value_residue UInt8 z is = unsigned_value w8 z is.low is.high
value_residue UInt16 z is = unsigned_value w16 z is.low is.high
value_residue UInt32 z is = unsigned_value w32 z is.low is.high
value_residue UInt64 z is = unsigned_value w64 z is.low is.high

-- a value of the kind wraps to itself
pub wrap_value : (k : Kind) (z : ℤ) → IsValue k z → wrap k z ≡ z
wrap_value Boolean z is = (truth z is).1
wrap_value Int8 z is = value_residue Int8 z is
wrap_value Int16 z is = value_residue Int16 z is
wrap_value Int32 z is = value_residue Int32 z is
wrap_value Int64 z is = value_residue Int64 z is
wrap_value UInt8 z is = value_residue UInt8 z is
wrap_value UInt16 z is = value_residue UInt16 z is
wrap_value UInt32 z is = value_residue UInt32 z is
wrap_value UInt64 z is = value_residue UInt64 z is

truth_in : (b : Bool) → IsValue Boolean (if b then pos 0 else pos 1)
truth_in true = record { low = record { le = tt }; high = record { le = tt } }
truth_in false = record { low = record { le = tt }; high = record { le = tt } }

both : (k : Kind) (z : ℤ) → (lowest k ≤ℤ z) × (z ≤ℤ highest k) → IsValue k z
both k z is = record { low = is.0; high = is.1 }

-- what a number wraps to is a value of the kind
pub wrap_in_range : (k : Kind) (z : ℤ) → IsValue k (wrap k z)
wrap_in_range Boolean z = truth_in _
wrap_in_range Int8 z = both Int8 _ (signed_in w8 z)
wrap_in_range Int16 z = both Int16 _ (signed_in w16 z)
wrap_in_range Int32 z = both Int32 _ (signed_in w32 z)
wrap_in_range Int64 z = both Int64 _ (signed_in w64 z)
wrap_in_range UInt8 z = both UInt8 _ (unsigned_in w8 z)
wrap_in_range UInt16 z = both UInt16 _ (unsigned_in w16 z)
wrap_in_range UInt32 z = both UInt32 _ (unsigned_in w32 z)
wrap_in_range UInt64 z = both UInt64 _ (unsigned_in w64 z)

-- ---- bytes

number_again : (w : Width) (big : Bool) (n : ℕ) → byte_len w ≤ 8 → n < 2 ^ (8 * byte_len w) → number_in w big (bytes_in w big n) ≡ n
number_again w8 true n few lt = let small : n % 256 ≡ n = omega arith in small
number_again w8 false n few lt = let small : n % 256 ≡ n = omega arith in small
number_again w16 true n few lt = from_be_bytes-to_be_bytes_2 n lt
number_again w16 false n few lt = from_le_bytes-to_le_bytes_2 n lt
number_again w32 true n few lt = from_be_bytes-to_be_bytes_4 n lt
number_again w32 false n few lt = from_le_bytes-to_le_bytes_4 n lt
number_again w64 true n few lt = from_be_bytes-to_be_bytes_8 n lt
number_again w64 false n few lt = from_le_bytes-to_le_bytes_8 n lt
number_again w128 big n few lt = absurd (omega arith)

pub few_bytes : (k : Kind) → size_of k ≤ 8
few_bytes Boolean = omega arith
few_bytes Int8 = omega arith
few_bytes Int16 = omega arith
few_bytes Int32 = omega arith
few_bytes Int64 = omega arith
few_bytes UInt8 = omega arith
few_bytes UInt16 = omega arith
few_bytes UInt32 = omega arith
few_bytes UInt64 = omega arith

pub round_trip : RoundTrip
round_trip e z is = let w = width_of e.kind in
    ap (value_in e.kind) (number_again w e.big (residue w z) (few_bytes e.kind) (residue_small w z)) ∙ value_residue e.kind z is

length-low_first : (i k n : ℕ) → length (bytes_low_first i k n) ≡ k
length-low_first i zero n = refl
length-low_first i (suc k) n = ap suc (length-low_first (suc i) k n)

length-high_first : (k n : ℕ) → length (bytes_high_first k n) ≡ k
length-high_first zero n = refl
length-high_first (suc k) n = ap suc (length-high_first k n)

length-bytes_in : (w : Width) (big : Bool) (n : ℕ) → length (bytes_in w big n) ≡ byte_len w
length-bytes_in w true n = length-high_first (byte_len w) n
length-bytes_in w false n = length-low_first 0 (byte_len w) n

pub length-bytes_of : (e : Element) (z : ℤ) → length (bytes_of e z) ≡ size_of e.kind
length-bytes_of e z = let w = width_of e.kind in length-bytes_in w e.big (residue w z)
