use Rattle.std.proofs.Common.{arith, Result, Ok, length, sym, ap, subst, ◌∙◌}
use Rattle.std.specs.Prelude.{◌==◌}
use Rattle.nd_model.specs.Making.Creation.{convert, converted_array}
use Rattle.nd_model.specs.Cells.Fault.{Fault}
use Rattle.nd_model.specs.Making.Operand.{Made}
use Rattle.nd_model.specs.Arrays.View.{One}
use Rattle.nd_types.specs.Kinds.{kind_of}
use Rattle.nd_types.specs.Types.{type_of}
use Rattle.nd_operation.specs.Operators.Contents.{elements_over, operand_of}
use Rattle.nd_operation.specs.Operators.New.{MakesNew}
use Rattle.nd_operation.proofs.operators.Converting.{convert_many}
use Rattle.std.proofs.lemmas.Grind.{common_steps}
use Rattle.nd_operation.proofs.operators.conversion.convert.Goals as goal

pub returns-else-is_empty : goal.returns-else-is_empty
returns-else-is_empty c =
    let k = kind_of c.args.kind in
    let x = c.in-Elements.elements in
    let g = x.view.now in
    let made = elements_over x.is_row g x.block.now in
    subst (λ (m : Result Made Fault). MakesNew c.convert_elements.result m)
    (ap (λ e. Ok (converted_array (One e) made)) c.little.ensures
    ∙ sym (ap (λ y. convert k (operand_of y)) c.in-Elements.is
    ∙ convert_many k x.is_row g x.block.now c.in-One.field-0 (sym c.elem.ensures ∙ ap type_of c.in-One.is)
    (ap (λ s. length s == 0) (sym c.shape.ensures.value) ∙ sym c.is_empty.ensures ∙ c.if-is_empty.false)))
    c.convert_elements.ensures

pub returns-in_default : goal.returns-in_default
returns-in_default c = grind (arith, common_steps)

pub returns-in_err-check_fit-in-Number : goal.returns-in_err-check_fit-in-Number
returns-in_err-check_fit-in-Number c = grind (arith, common_steps)

pub returns-in_ok-check_fit-in-Number : goal.returns-in_ok-check_fit-in-Number
returns-in_ok-check_fit-in-Number c = grind (arith, common_steps)

pub returns-then-is_empty : goal.returns-then-is_empty
returns-then-is_empty c = grind (arith, common_steps)

pub convert_elements-requires : goal.convert_elements-requires
convert_elements-requires c = grind (arith, common_steps)
