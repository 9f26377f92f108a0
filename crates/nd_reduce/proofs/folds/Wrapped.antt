-- Numbers of 64 bits, and what they wrap to.
use Rattle.std.proofs.Common.{◌≡◌, ℕ, ◌<◌, ◌^◌, ℤ, pos, sym, ap, ◌∙◌, subst}
use Rattle.std.specs.Int.{w64, cast_signed, cast_unsigned, int_wrap}
use Rattle.std.proofs.lemmas.Int.{int_wrap_fits, of_z-to_z, SFits-int_wrap}
use native.Mathlib.Nat.{mod-eq_of_lt}
use Rattle.nd_model.specs.Arrays.Element.{Kind, Boolean, Int8, Int16, Int32, Int64, UInt8, UInt16, UInt32, UInt64, residue, wrap}
use Rattle.nd_model.specs.Making.Reductions.{sum_kind}
use Rattle.nd_model.proofs.Values.{bits_are, residue_signed, residue_small, signed_residue}

again : (z : ℤ) → int_wrap w64 (int_wrap w64 z) ≡ int_wrap w64 z
again z = int_wrap_fits w64 (int_wrap w64 z) (SFits-int_wrap w64 z)

signed_again : (z : ℤ) → wrap Int64 (int_wrap w64 z) ≡ wrap Int64 z
signed_again z = signed_residue w64 (int_wrap w64 z) ∙ again z ∙ sym (signed_residue w64 z)

residue_again : (z : ℤ) → residue w64 (int_wrap w64 z) ≡ residue w64 z
residue_again z =
    residue_signed w64 (int_wrap w64 z) (SFits-int_wrap w64 z) ∙ ap (cast_unsigned w64) (sym (signed_residue w64 z))
    ∙ of_z-to_z w64 (residue w64 z) (subst (λ k. residue w64 z < 2 ^ k) (bits_are w64) (residue_small w64 z))

unsigned_again : (z : ℤ) → wrap UInt64 (int_wrap w64 z) ≡ wrap UInt64 z
unsigned_again z = ap pos (residue_again z)

-- sums and products are known by their lowest 64 bits
pub wrap_again : (k : Kind) (z : ℤ) → wrap (sum_kind k) (int_wrap w64 z) ≡ wrap (sum_kind k) z
wrap_again Boolean z = signed_again z
wrap_again Int8 z = signed_again z
wrap_again Int16 z = signed_again z
wrap_again Int32 z = signed_again z
wrap_again Int64 z = signed_again z
wrap_again UInt8 z = unsigned_again z
wrap_again UInt16 z = unsigned_again z
wrap_again UInt32 z = unsigned_again z
wrap_again UInt64 z = unsigned_again z

-- their lowest 64 bits are those of the numbers of the kind
same_signed : (z : ℤ) → wrap Int64 (wrap Int64 z) ≡ int_wrap w64 z
same_signed z = signed_residue w64 (wrap Int64 z) ∙ ap (int_wrap w64) (signed_residue w64 z) ∙ again z

same_unsigned : (z : ℤ) → wrap Int64 (wrap UInt64 z) ≡ int_wrap w64 z
same_unsigned z = ap (cast_signed w64) (mod-eq_of_lt (residue_small w64 z)) ∙ signed_residue w64 z

pub low_again : (k : Kind) (z : ℤ) → wrap Int64 (wrap (sum_kind k) z) ≡ int_wrap w64 z
low_again Boolean z = same_signed z
low_again Int8 z = same_signed z
low_again Int16 z = same_signed z
low_again Int32 z = same_signed z
low_again Int64 z = same_signed z
low_again UInt8 z = same_unsigned z
low_again UInt16 z = same_unsigned z
low_again UInt32 z = same_unsigned z
low_again UInt64 z = same_unsigned z

-- a place is known by its number of 64 bits
pub place_again : (n : ℕ) → n < 2 ^ 64 → residue w64 (wrap Int64 (pos n)) ≡ n
place_again n lt = ap (residue w64) (signed_residue w64 (pos n)) ∙ residue_again (pos n) ∙ mod-eq_of_lt lt
