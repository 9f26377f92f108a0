use Rattle.std.proofs.Common.{unsigned_abs, FitsSigned, ap, ◌∙◌, rules}
use Rattle.std.specs.Int.{w64, w128, int_pow, int_wrap}
use mir.Facts.{to_z-of_z}
use Rattle.nd_types.specs.Kinds.{kind_of}
use Rattle.nd_ufunc.proofs.scalar.Modulo.{no_boolean}
use Rattle.nd_ufunc.proofs.scalar.ShortNumbers.{same_short}
use Rattle.nd_ufunc.proofs.scalar.Squares.{wrap_alone}
use Rattle.nd_ufunc.proofs.scalar.powers.power.Goals as goal

pub returns-in_default : goal.returns-in_default
returns-in_default c =
    let a = c.args in let n = c.unsigned_abs-exponent.result in
    let short : FitsSigned w64 c.lowest_bits.result = search rules in
    let power : FitsSigned w64 c.wrapping_power.result = search rules in
    let long : FitsSigned w128 c.from.result = search rules in
    to_z-of_z {w = w128} (search rules) ∙ c.wrap.ensures.value
    ∙ same_short (kind_of a.kind) _ (int_pow a.base (unsigned_abs a.exponent)) (no_boolean a.kind c.in_default.not-Bool)
    (ap (int_wrap w64) (to_z-of_z long ∙ c.from.ensures ∙ to_z-of_z power) ∙ c.wrapping_power.ensures
    ∙ ap (λ b. int_wrap w64 (int_pow b n)) (to_z-of_z short ∙ c.lowest_bits.ensures ∙ ap (int_wrap w64) (to_z-of_z c.ranges.base))
    ∙ wrap_alone w64 a.base n
    ∙ ap (λ m. int_wrap w64 (int_pow a.base m)) (c.unsigned_abs-exponent.ensures.value ∙ ap unsigned_abs (to_z-of_z c.ranges.exponent)))
