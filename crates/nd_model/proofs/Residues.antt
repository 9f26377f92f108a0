-- A number and its residue, a residue and its bytes: each is found again from the other.
use Rattle.std.proofs.Common.{◌≡◌, ◌≢◌, ℕ, zero, suc, ◌*◌, ◌%◌, ◌^◌, ◌<◌, ◌≤◌, Bool, true, false, List, [], ◌∷◌, length, get_or, ℤ, pos, refl, sym, ap, ◌∙◌, subst, arith}
use Rattle.std.specs.List.{All}
use Rattle.std.specs.Int.{Width, w8, w16, w32, w64, w128, byte_len, cast_signed}
use Rattle.std.specs.Int.RustNames.{FitsSigned}
use native.Mathlib.Nat.{mod-eq_of_lt}
use Rattle.std.proofs.lemmas.Nat.{le_bytes_2, be_bytes_2, le_bytes_4, be_bytes_4, le_bytes_8, be_bytes_8}
use Rattle.std.proofs.lemmas.Int.{of_z-to_z, SFits-int_wrap}
use Rattle.nd_model.specs.Arrays.Element.{Kind, Boolean, Int8, Int16, Int32, Int64, UInt8, UInt16, UInt32, UInt64, width_of, size_of, IsValue, number_in, value_in, bytes_in, residue, wrap, BytesRoundTrip, OneWrap}
use Rattle.nd_model.proofs.Values.{bits_are, residue_small, residue_signed, signed_residue, value_residue, wrap_in_range, few_bytes}

-- ---- residues

residue_pos : (w : Width) (r : ℕ) → r < 2 ^ (8 * byte_len w) → residue w (pos r) ≡ r
residue_pos w r small = mod-eq_of_lt small

signed_fits : (w : Width) (r : ℕ) → r < 2 ^ (8 * byte_len w) → FitsSigned w (cast_signed w r)
signed_fits w r small = subst (FitsSigned w) (sym (ap (cast_signed w) (sym (residue_pos w r small)) ∙ signed_residue w (pos r))) (SFits-int_wrap w (pos r))

residue_of_signed : (w : Width) (r : ℕ) → r < 2 ^ (8 * byte_len w) → residue w (cast_signed w r) ≡ r
residue_of_signed w r small =
    residue_signed w (cast_signed w r) (signed_fits w r small) ∙ of_z-to_z w r (subst (λ k. r < 2 ^ k) (bits_are w) small)

-- a residue is that of the value which a kind makes of it
pub residue_of_value : (k : Kind) (r : ℕ) → k ≢ Boolean → r < 2 ^ (8 * size_of k) → residue (width_of k) (value_in k r) ≡ r
residue_of_value Boolean r number small = absurd (number refl)
residue_of_value Int8 r number small = residue_of_signed w8 r small
residue_of_value Int16 r number small = residue_of_signed w16 r small
residue_of_value Int32 r number small = residue_of_signed w32 r small
residue_of_value Int64 r number small = residue_of_signed w64 r small
residue_of_value UInt8 r number small = residue_pos w8 r small
residue_of_value UInt16 r number small = residue_pos w16 r small
residue_of_value UInt32 r number small = residue_pos w32 r small
residue_of_value UInt64 r number small = residue_pos w64 r small

-- ---- what a number wraps to

wrap_is : (k : Kind) (z : ℤ) → k ≢ Boolean → wrap k z ≡ value_in k (residue (width_of k) z)
wrap_is Boolean z number = absurd (number refl)
wrap_is Int8 z number = refl
wrap_is Int16 z number = refl
wrap_is Int32 z number = refl
wrap_is Int64 z number = refl
wrap_is UInt8 z number = refl
wrap_is UInt16 z number = refl
wrap_is UInt32 z number = refl
wrap_is UInt64 z number = refl

residue_of_wrap : (k : Kind) (z : ℤ) → k ≢ Boolean → residue (width_of k) (wrap k z) ≡ residue (width_of k) z
residue_of_wrap k z number =
    ap (residue (width_of k)) (wrap_is k z number) ∙ residue_of_value k (residue (width_of k) z) number (residue_small (width_of k) z)

pub one_wrap : OneWrap
one_wrap k z w number = (
  λ same. (subst (IsValue k) (sym same) (wrap_in_range k z), ap (residue (width_of k)) same ∙ residue_of_wrap k z number),
  λ is. sym (value_residue k w is.0) ∙ ap (value_in k) is.1 ∙ sym (wrap_is k z number),
)

-- ---- bytes

module _ (bs : List ℕ) (small : (i : ℕ) → get_or bs i 0 < 256) where
  number_small : (w : Width) (big : Bool) → byte_len w ≤ 8 → number_in w big bs < 2 ^ (8 * byte_len w)
  number_small w8 true few = let a = small 0 in omega arith
  number_small w8 false few = let a = small 0 in omega arith
  number_small w16 true few = let a = small 0 in let b = small 1 in omega arith
  number_small w16 false few = let a = small 0 in let b = small 1 in omega arith
  number_small w32 true few = let a = small 0 in let b = small 1 in let c = small 2 in let d = small 3 in omega arith
  number_small w32 false few = let a = small 0 in let b = small 1 in let c = small 2 in let d = small 3 in omega arith
  number_small w64 true few =
      let a = small 0 in let b = small 1 in let c = small 2 in let d = small 3 in let e = small 4 in let f = small 5 in let g = small 6 in let h = small 7 in omega arith
  number_small w64 false few =
      let a = small 0 in let b = small 1 in let c = small 2 in let d = small 3 in let e = small 4 in let f = small 5 in let g = small 6 in let h = small 7 in omega arith
  number_small w128 big few = absurd (omega arith)

single_byte : (big : Bool) (bs : List ℕ) → length bs ≡ 1 → ((i : ℕ) → get_or bs i 0 < 256) → bytes_in w8 big (number_in w8 big bs) ≡ bs
single_byte big [] len small = absurd (omega arith)
single_byte true (b ∷ []) len small = let few = small 0 in ap (λ x. x ∷ []) (let same : b % 256 ≡ b = omega arith in same)
single_byte false (b ∷ []) len small = let few = small 0 in ap (λ x. x ∷ []) (let same : b % 256 ≡ b = omega arith in same)
single_byte big (b ∷ c ∷ bs) len small = absurd (omega arith)

bytes_again : (w : Width) (big : Bool) (bs : List ℕ) → byte_len w ≤ 8 → length bs ≡ byte_len w → ((i : ℕ) → get_or bs i 0 < 256) → bytes_in w big (number_in w big bs) ≡ bs
bytes_again w8 big bs few len small = single_byte big bs len small
bytes_again w16 true bs few len small = be_bytes_2 bs _ len small refl
bytes_again w16 false bs few len small = le_bytes_2 bs _ len small refl
bytes_again w32 true bs few len small = be_bytes_4 bs _ len small refl
bytes_again w32 false bs few len small = le_bytes_4 bs _ len small refl
bytes_again w64 true bs few len small = be_bytes_8 bs _ len small refl
bytes_again w64 false bs few len small = le_bytes_8 bs _ len small refl
bytes_again w128 big bs few len small = absurd (omega arith)

all_small : (bs : List ℕ) → All (λ b. b < 256) bs → (i : ℕ) → get_or bs i 0 < 256
all_small [] small i = omega arith
all_small (b ∷ bs) small zero = small 0 0 (omega arith)
all_small (b ∷ bs) small (suc i) = all_small bs (λ k d lt. small (suc k) d (omega arith)) i

pub bytes_round_trip : BytesRoundTrip
bytes_round_trip e bs number len small =
    let w = width_of e.kind in
    let each = all_small bs small in
    let few = few_bytes e.kind in
    ap (bytes_in w e.big) (residue_of_value e.kind (number_in w e.big bs) number (number_small bs each w e.big few))
    ∙ bytes_again w e.big bs few len each
