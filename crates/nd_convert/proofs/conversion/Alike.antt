-- Kinds whose numbers have the same bytes.
use Rattle.std.proofs.Common.{◌≡◌, ◌≢◌, ℕ, ℤ, Bool, List, refl, sym, ap, ◌∙◌}
use Rattle.std.specs.List.{flat_map}
use Rattle.nd_model.specs.Arrays.Element.{Kind, Boolean, Int64, UInt64, Element, width_of, residue, bytes_in, bytes_of, wrap}
use Rattle.nd_model.proofs.Residues.{one_wrap}
use Rattle.nd_convert.specs.Conversion.Converted.{converted_bytes}
use Rattle.nd_model.specs.Arrays.Content.{number_at}

residue_of_wrap : (k : Kind) (z : ℤ) → k ≢ Boolean → residue (width_of k) (wrap k z) ≡ residue (width_of k) z
residue_of_wrap k z number = ((one_wrap k z (wrap k z) number).0 refl).1

-- signed and unsigned, with 64 bits
pub alike64 : (big : Bool) (z : ℤ) → bytes_of (record { kind = Int64; big = big }) (wrap Int64 z) ≡ bytes_of (record { kind = UInt64; big = big }) (wrap UInt64 z)
alike64 big z = ap (bytes_in (width_of Int64) big) (residue_of_wrap Int64 z (λ e. cc) ∙ sym (residue_of_wrap UInt64 z (λ e. cc)))

-- numbers that are converted to kinds with the same bytes have the same bytes
pub converted_alike : (to other from : Element) (bytes places : List ℕ) → ((z : ℤ) → bytes_of other (wrap other.kind z) ≡ bytes_of to (wrap to.kind z))
    → converted_bytes other from bytes places ≡ converted_bytes to from bytes places
converted_alike to other from bytes places same = λ i. flat_map (λ p. same (number_at from bytes p) i) places
