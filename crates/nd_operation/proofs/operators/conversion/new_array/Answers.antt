use Rattle.std.proofs.Common.{Result, option_map, sym, ap, subst, ◌∙◌}
use Rattle.nd_model.specs.Making.Creation.{new_array}
use Rattle.nd_model.specs.Cells.Fault.{Fault}
use Rattle.nd_model.specs.Making.Operand.{Made}
use Rattle.nd_syntax.specs.Trees.Calls.{dtype_of}
use Rattle.nd_operation.specs.Operators.Contents.{num_of, operand_of}
use Rattle.nd_operation.specs.Operators.New.{MakesNew}
use Rattle.nd_operation.proofs.operators.Converting.{lone_number}
use Rattle.nd_operation.proofs.operators.conversion.new_array.Goals as goal

pub returns-in-Number : goal.returns-in-Number
returns-in-Number c =
    let d = option_map dtype_of c.args.dtype.now in
    subst (λ (m : Result Made Fault). MakesNew c.number_array.result m) (sym (ap (λ x. new_array d (operand_of x)) c.in-Number.is ∙ lone_number d (num_of c.in-Number.number))) c.number_array.ensures
