use Rattle.std.proofs.Common.{◌≡◌, ◌+ℤ◌, true, false, sym, ap, subst, ◌∙◌, rules, FitsSigned}
use Rattle.std.specs.Int.{w128, int_rem_euclid}
use mir.Facts.{to_z-of_z}
use Rattle.nd_model.specs.Making.Operand.{python_int}
use Rattle.nd_model.specs.Making.Operators.{is_below}
use Rattle.nd_operation.specs.Operators.Contents.{number_made}
use Rattle.nd_operation.specs.Refusals.Ends.{Says}
use Rattle.nd_ufunc.proofs.scalar.WholeNumbers.{remainder_below, remainder_whole}
use Rattle.nd_operation.proofs.operators.python.floor_remainder.Goals as goal

pub returns-then-is_below : goal.returns-then-is_below
returns-then-is_below c =
    let number = c.ranges.number in
    let divisor = c.ranges.divisor in
    let fits : FitsSigned w128 c.rem_euclid-rest.result = search rules in
    let less : is_below c.args.number c.args.divisor ≡ true = sym (simp to_z-of_z at c.is_below.ensures) ∙ c.if-is_below.true in
    let is : c.rem_euclid-rest.result ≡ int_rem_euclid c.args.number c.args.divisor = simp to_z-of_z at c.rem_euclid-rest.ensures.value in
    subst (λ z. Says number_made c.python_int-then-is_below.result (python_int z))
    ((λ i. to_z-of_z fits i +ℤ to_z-of_z divisor i) ∙ ap (λ z. z +ℤ c.args.divisor) is ∙ sym (remainder_below c.args.number c.args.divisor less))
    (c.python_int-then-is_below.ensures _ c.checked_add.ensures)

pub returns : goal.returns
returns c =
    let number = c.ranges.number in
    let divisor = c.ranges.divisor in
    let fits : FitsSigned w128 c.rem_euclid-rest.result = search rules in
    let whole : is_below c.args.number c.args.divisor ≡ false = sym (simp to_z-of_z at c.is_below.ensures) ∙ c.if-is_below.false in
    let is : c.rem_euclid-rest.result ≡ int_rem_euclid c.args.number c.args.divisor = simp to_z-of_z at c.rem_euclid-rest.ensures.value in
    subst (λ z. Says number_made c.python_int-2.result (python_int z)) (is ∙ sym (remainder_whole c.args.number c.args.divisor whole))
    (c.python_int-2.ensures c.rem_euclid-rest.result (fits, to_z-of_z fits))
