use Rattle.std.proofs.Common.{map, sym, ap, subst, ◌∙◌}
use Rattle.nd_operation.specs.Operators.Contents.{operand_of, unused_of}
use Rattle.nd_eval.specs.Choosing.Shapes.{MakesStretched}
use Rattle.nd_eval.proofs.choosing.Stretching.{of_lengths}
use Rattle.nd_model.specs.Indexing.ShapeChoices.{stretch_operand}
use Rattle.nd_eval.proofs.choosing.stretches.stretch_element.Goals as goal

pub returns-in-Number : goal.returns-in-Number
returns-in-Number c =
    let items = c.in_ok-shape.shape.items in
    subst (MakesStretched c.stretch_number.result)
    (ap (λ o. stretch_operand (operand_of o) items) (sym c.in-Number.is) ∙ sym (of_lengths (operand_of c.args.operand.now) (map unused_of c.args.shape.now) items c.in_ok-shape.ensures))
    (rw c.deref.ensures at c.stretch_number.ensures)

pub returns : goal.returns
returns c =
    let items = c.in_ok-shape.shape.items in
    subst (MakesStretched c.stretch_row.result)
    (ap (λ o. stretch_operand (operand_of o) items) (sym c.in-Elements.is) ∙ sym (of_lengths (operand_of c.args.operand.now) (map unused_of c.args.shape.now) items c.in_ok-shape.ensures))
    (rw c.deref-in-Elements.ensures at c.stretch_row.ensures)
