-- What a number wraps to, where no Boolean is wanted, is told by its lowest 64 bits.
use Rattle.std.proofs.Common.{◌≡◌, ◌≢◌, ℕ, ◌+◌, ◌%◌, ◌^◌, ℤ, pos, refl, sym, ap, ◌∙◌}
use Rattle.std.specs.Prelude.{unsigned_abs}
use Rattle.std.specs.Int.{w64, cast_unsigned, int_rem_euclid, int_wrap}
use Rattle.std.proofs.lemmas.Int.{of_z-to_z}
use Rattle.nd_model.specs.Arrays.Element.{Kind, Boolean, Int8, Int16, Int32, Int64, UInt8, UInt16, UInt32, UInt64, residue, value_in, wrap}
use Rattle.nd_model.proofs.LowestBits.{narrow}
use Rattle.nd_model.proofs.Values.{signed_residue, residue_small}

same_residue : (x y : ℤ) → int_wrap w64 x ≡ int_wrap w64 y → residue w64 x ≡ residue w64 y
same_residue x y same =
    sym (of_z-to_z w64 (residue w64 x) (residue_small w64 x)) ∙ ap (cast_unsigned w64) (signed_residue w64 x ∙ same ∙ sym (signed_residue w64 y))
    ∙ of_z-to_z w64 (residue w64 y) (residue_small w64 y)

fewer : (j k : ℕ) (x y : ℤ) → j + k ≡ 64 → int_wrap w64 x ≡ int_wrap w64 y → unsigned_abs (int_rem_euclid x (pos (2 ^ k))) ≡ unsigned_abs (int_rem_euclid y (pos (2 ^ k)))
fewer j k x y all same =
    narrow j k x ∙ ap (λ n. unsigned_abs (int_rem_euclid x (pos (2 ^ n))) % 2 ^ k) all ∙ ap (λ m. m % 2 ^ k) (same_residue x y same)
    ∙ sym (narrow j k y ∙ ap (λ n. unsigned_abs (int_rem_euclid y (pos (2 ^ n))) % 2 ^ k) all)

pub same_short : (k : Kind) (x y : ℤ) → k ≢ Boolean → int_wrap w64 x ≡ int_wrap w64 y → wrap k x ≡ wrap k y
same_short Boolean x y number same = absurd (number refl)
same_short Int8 x y number same = ap (value_in Int8) (fewer 56 8 x y refl same)
same_short Int16 x y number same = ap (value_in Int16) (fewer 48 16 x y refl same)
same_short Int32 x y number same = ap (value_in Int32) (fewer 32 32 x y refl same)
same_short Int64 x y number same = ap (value_in Int64) (same_residue x y same)
same_short UInt8 x y number same = ap (value_in UInt8) (fewer 56 8 x y refl same)
same_short UInt16 x y number same = ap (value_in UInt16) (fewer 48 16 x y refl same)
same_short UInt32 x y number same = ap (value_in UInt32) (fewer 32 32 x y refl same)
same_short UInt64 x y number same = ap (value_in UInt64) (same_residue x y same)
