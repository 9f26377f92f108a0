-- What a number wraps to, and its bytes, depend on its lowest bits alone.
use Rattle.std.proofs.Common.{◌≡◌, ◌≢◌, ℕ, ◌+◌, ◌-◌, ◌*◌, ◌/◌, ◌%◌, ◌^◌, ◌<◌, ℤ, pos, negsuc, refl, sym, ap, ◌∙◌, arith}
use Rattle.std.specs.Prelude.{unsigned_abs}
use Rattle.std.specs.Int.{Width, w8, w16, w32, w64, w128, cast_unsigned, int_rem_euclid, int_wrap}
use Rattle.std.proofs.Math.Pow.{mod-mod-pow, pow_mono}
use Rattle.std.proofs.Math.Nat.{mod-lt}
use Rattle.std.proofs.lemmas.Nat.{pow-add, mod-pow-add, mod-mul-add}
use Rattle.std.proofs.lemmas.Int.{of_z-to_z}
use Rattle.nd_model.specs.Arrays.Element.{Kind, Boolean, Int8, Int16, Int32, Int64, UInt8, UInt16, UInt32, UInt64, Element, residue, value_in, width_of, bytes_in, bytes_of, wrap}
use Rattle.nd_model.proofs.Values.{signed_residue, residue_small}

-- what is left below a power, of a number that two powers hold
narrow_below : (x y q r n : ℕ) → q < x → r < y → n ≡ x * y → n - 1 - (q * y + r) ≡ (x - 1 - q) * y + (y - 1 - r)
narrow_below x y q r n below small e = split (x - 1 - q) (omega arith)
  where
    split : (d : ℕ) → x ≡ q + 1 + d → n - 1 - (q * y + r) ≡ d * y + (y - 1 - r)
    split d is = let all : n ≡ (q + 1 + d) * y = e ∙ ap (λ a. a * y) is in omega (arith, all)

pub narrow : (j k : ℕ) (z : ℤ) → unsigned_abs (int_rem_euclid z (pos (2 ^ k))) ≡ unsigned_abs (int_rem_euclid z (pos (2 ^ (j + k)))) % 2 ^ k
narrow j k (pos a) = sym (mod-mod-pow a j k)
narrow j k (negsuc a) =
    let some : 0 < 2 ^ k = omega (arith, pow_mono {i = 0} {j = k} (omega arith)) in
    let many : 0 < 2 ^ j = omega (arith, pow_mono {i = 0} {j = j} (omega arith)) in
    let x : ℕ = 2 ^ j in let y : ℕ = 2 ^ k in let q : ℕ = a / 2 ^ k % 2 ^ j in let r : ℕ = a % 2 ^ k in
    let whole : 2 ^ (j + k) - 1 - a % 2 ^ (j + k) ≡ (x - 1 - q) * y + (y - 1 - r)
    = ap (λ m. 2 ^ (j + k) - 1 - m) (mod-pow-add a j k) ∙ narrow_below x y q r (2 ^ (j + k)) (mod-lt (a / 2 ^ k) many) (mod-lt a some) (pow-add 2 j k) in
    let small : r < y = mod-lt a some in
    sym (ap (λ m. m % 2 ^ k) whole ∙ mod-mul-add (x - 1 - q) y (y - 1 - r) (omega (arith, small)))

-- numbers with the same lowest 128 bits have the same residue
same_residue : (x y : ℤ) → int_wrap w128 x ≡ int_wrap w128 y → residue w128 x ≡ residue w128 y
same_residue x y same =
    sym (of_z-to_z w128 (residue w128 x) (residue_small w128 x)) ∙ ap (cast_unsigned w128) (signed_residue w128 x ∙ same ∙ sym (signed_residue w128 y))
    ∙ of_z-to_z w128 (residue w128 y) (residue_small w128 y)

fewer : (j k : ℕ) (x y : ℤ) → j + k ≡ 128 → int_wrap w128 x ≡ int_wrap w128 y → unsigned_abs (int_rem_euclid x (pos (2 ^ k))) ≡ unsigned_abs (int_rem_euclid y (pos (2 ^ k)))
fewer j k x y all same =
    narrow j k x ∙ ap (λ n. unsigned_abs (int_rem_euclid x (pos (2 ^ n))) % 2 ^ k) all ∙ ap (λ m. m % 2 ^ k) (same_residue x y same)
    ∙ sym (narrow j k y ∙ ap (λ n. unsigned_abs (int_rem_euclid y (pos (2 ^ n))) % 2 ^ k) all)

by_width : (w : Width) (x y : ℤ) → int_wrap w128 x ≡ int_wrap w128 y → residue w x ≡ residue w y
by_width w8 x y same = fewer 120 8 x y refl same
by_width w16 x y same = fewer 112 16 x y refl same
by_width w32 x y same = fewer 96 32 x y refl same
by_width w64 x y same = fewer 64 64 x y refl same
by_width w128 x y same = same_residue x y same

-- SAME BITS, SAME NUMBER: what is no Boolean is told by the lowest bits
pub same_wrap : (k : Kind) (x y : ℤ) → k ≢ Boolean → int_wrap w128 x ≡ int_wrap w128 y → wrap k x ≡ wrap k y
same_wrap Boolean x y number same = absurd (number refl)
same_wrap Int8 x y number same = ap (value_in Int8) (fewer 120 8 x y refl same)
same_wrap Int16 x y number same = ap (value_in Int16) (fewer 112 16 x y refl same)
same_wrap Int32 x y number same = ap (value_in Int32) (fewer 96 32 x y refl same)
same_wrap Int64 x y number same = ap (value_in Int64) (fewer 64 64 x y refl same)
same_wrap UInt8 x y number same = ap (value_in UInt8) (fewer 120 8 x y refl same)
same_wrap UInt16 x y number same = ap (value_in UInt16) (fewer 112 16 x y refl same)
same_wrap UInt32 x y number same = ap (value_in UInt32) (fewer 96 32 x y refl same)
same_wrap UInt64 x y number same = ap (value_in UInt64) (fewer 64 64 x y refl same)

-- and so are its bytes
pub same_bytes : (e : Element) (x y : ℤ) → int_wrap w128 x ≡ int_wrap w128 y → bytes_of e x ≡ bytes_of e y
same_bytes e x y same = ap (bytes_in (width_of e.kind) e.big) (by_width (width_of e.kind) x y same)
