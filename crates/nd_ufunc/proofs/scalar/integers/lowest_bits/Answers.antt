use Rattle.std.proofs.Common.{◌≡◌, ◌^◌, pos, unsigned_abs, FitsSigned, ap, ◌∙◌, rules}
use Rattle.std.specs.Int.{w64, w128, cast_signed, int_rem_euclid}
use mir.Facts.{to_z-of_z}
use Rattle.nd_model.proofs.Values.{signed_residue}
use Rattle.nd_ufunc.proofs.scalar.integers.lowest_bits.Goals as goal

pub returns : goal.returns
returns c =
    let fits : FitsSigned w128 c.rem_euclid.result = search rules in
    to_z-of_z {w = w64} (search rules) ∙ c.cast_signed.ensures
    ∙ ap (λ z. cast_signed w64 (unsigned_abs z))
    (to_z-of_z fits ∙ c.rem_euclid.ensures.value ∙ ap (λ z. int_rem_euclid z (pos (2 ^ 64))) (to_z-of_z c.ranges.number))
    ∙ signed_residue w64 c.args.number
