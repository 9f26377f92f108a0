use Rattle.std.proofs.Common.{refl, ◌∙◌}
use Rattle.nd_operation.specs.Operators.Contents.{number_made, operand_of}
use Rattle.nd_operation.specs.Operators.OfTwo.{made_of_two}
use Rattle.nd_operation.proofs.operators.operators.make_of_two.Goals as goal

pub returns-in_ok-two_numbers-in-Number-Number-clause-operand : goal.returns-in_ok-two_numbers-in-Number-Number-clause-operand
returns-in_ok-two_numbers-in-Number-Number-clause-operand c =
    let numbers = c.in-Number-Number in (
      number_made c.in_ok-two_numbers-in-Number-Number.field-0,
      (λ i. made_of_two c.args.call (operand_of (numbers.is-0 i)) (operand_of (numbers.is-1 i))) ∙ c.in_ok-two_numbers-in-Number-Number.ensures,
      refl,
    )
