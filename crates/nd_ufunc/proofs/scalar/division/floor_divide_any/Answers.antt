use Rattle.std.proofs.Common.{◌≡◌, pos, negsuc, to_z, ◌-ℤ◌, true, sym, ap, ◌∙◌, rules, FitsSigned}
use Rattle.std.specs.Prelude.{neg_ℤ}
use Rattle.std.specs.Int.{w128, int_div_euclid}
use mir.Facts.{to_z-of_z}
use Rattle.nd_model.specs.Arrays.Element.{wrap}
use Rattle.nd_model.specs.Making.Operators.{floor_quotient, is_below}
use Rattle.nd_types.specs.Kinds.{kind_of}
use Rattle.nd_ufunc.proofs.scalar.WholeNumbers.{quotient_below, quotient_minus}
use Rattle.nd_ufunc.proofs.scalar.division.floor_divide_any.Goals as goal

pub returns-then-divisor-eqminus1 : goal.returns-then-divisor-eqminus1
returns-then-divisor-eqminus1 c =
    let minus : c.args.divisor ≡ negsuc 0 = sym (to_z-of_z c.ranges.divisor) ∙ ap (to_z w128) c.if-divisor-eqminus1.true in
    to_z-of_z {w = w128} (search rules) ∙ c.negative.ensures
    ∙ ap (wrap (kind_of c.args.kind)) (ap neg_ℤ (to_z-of_z c.ranges.number) ∙ sym (quotient_minus c.args.number) ∙ ap (floor_quotient c.args.number) (sym minus))

pub returns-then-is_below : goal.returns-then-is_below
returns-then-is_below c =
    let number = c.ranges.number in
    let divisor = c.ranges.divisor in
    let fits : FitsSigned w128 c.euclid_quotient-quotient.result = search rules in
    let less : is_below c.args.number c.args.divisor ≡ true = sym (simp to_z-of_z at c.is_below.ensures) ∙ c.if-is_below.true in
    let is : c.euclid_quotient-quotient.result ≡ int_div_euclid c.args.number c.args.divisor = simp to_z-of_z at c.euclid_quotient-quotient.ensures in
    to_z-of_z {w = w128} (search rules) ∙ c.subtract.ensures
    ∙ ap (wrap (kind_of c.args.kind)) (ap (λ z. z -ℤ pos 1) (to_z-of_z fits ∙ is) ∙ sym (quotient_below c.args.number c.args.divisor less))
