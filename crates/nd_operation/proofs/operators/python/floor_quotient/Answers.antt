use Rattle.std.proofs.Common.{◌≡◌, pos, ◌-ℤ◌, true, false, sym, ap, subst, ◌∙◌, rules, FitsSigned}
use Rattle.std.specs.Int.{w128, int_div_euclid}
use mir.Facts.{to_z-of_z}
use Rattle.nd_model.specs.Making.Operand.{python_int}
use Rattle.nd_model.specs.Making.Operators.{is_below}
use Rattle.nd_operation.specs.Operators.Contents.{number_made}
use Rattle.nd_operation.specs.Refusals.Ends.{Says}
use Rattle.nd_ufunc.proofs.scalar.WholeNumbers.{quotient_below, quotient_whole}
use Rattle.nd_operation.proofs.operators.python.floor_quotient.Goals as goal

pub returns-then-is_below : goal.returns-then-is_below
returns-then-is_below c =
    let number = c.ranges.number in
    let divisor = c.ranges.divisor in
    let fits : FitsSigned w128 c.div_euclid-quotient.result = search rules in
    let less : is_below c.args.number c.args.divisor ≡ true = sym (simp to_z-of_z at c.is_below.ensures) ∙ c.if-is_below.true in
    let is : c.div_euclid-quotient.result ≡ int_div_euclid c.args.number c.args.divisor = simp to_z-of_z at c.div_euclid-quotient.ensures in
    subst (λ z. Says number_made c.python_int.result (python_int z)) (ap (λ z. z -ℤ pos 1) (to_z-of_z fits ∙ is) ∙ sym (quotient_below c.args.number c.args.divisor less))
    (c.python_int.ensures _ c.checked_sub.ensures)

pub returns : goal.returns
returns c =
    let number = c.ranges.number in
    let divisor = c.ranges.divisor in
    let fits : FitsSigned w128 c.div_euclid-quotient.result = search rules in
    let whole : is_below c.args.number c.args.divisor ≡ false = sym (simp to_z-of_z at c.is_below.ensures) ∙ c.if-is_below.false in
    let is : c.div_euclid-quotient.result ≡ int_div_euclid c.args.number c.args.divisor = simp to_z-of_z at c.div_euclid-quotient.ensures in
    subst (λ z. Says number_made c.python_int-2.result (python_int z)) (is ∙ sym (quotient_whole c.args.number c.args.divisor whole))
    (c.python_int-2.ensures c.div_euclid-quotient.result (fits, to_z-of_z fits))
