use Rattle.std.proofs.Common.{Result, Ok, length, map, option_map, sym, ap, subst, ◌∙◌, refl}
use Rattle.std.specs.Prelude.{◌==◌}
use Rattle.nd_model.specs.Making.Creation.{full_of}
use Rattle.nd_model.specs.Cells.Fault.{Fault, Stmt, BadArgument}
use Rattle.nd_model.specs.Making.Operand.{Made, Plain}
use Rattle.nd_model.specs.Cells.Refusing as refusing
use Rattle.nd_syntax.specs.Trees.Calls.{dtype_of}
use Rattle.nd_operation.specs.Operators.Contents.{elements_over, num_of, operand_of, unused_of}
use Rattle.nd_operation.specs.Operators.New.{MakesNew}
use Rattle.nd_operation.proofs.operators.Creating.{full_lengths}
use Rattle.nd_operation.proofs.operators.creation.make_full.Goals as goal

pub returns-in-Number : goal.returns-in-Number
returns-in-Number c =
    let d = option_map dtype_of c.args.dtype.now in
    let os = map unused_of c.args.shape.now in
    subst (λ (m : Result Made Fault). MakesNew c.number_array.result m) (ap (λ x. full_of d os (operand_of x)) (sym c.in-Number.is))
    (full_lengths d os (Plain (num_of c.in-Number.number)) c.in_ok-shape.shape.items c.number_array.result c.in_ok-shape.ensures refl (rw c.deref.ensures at c.number_array.ensures))

pub returns : goal.returns
returns c =
    let d = option_map dtype_of c.args.dtype.now in
    let os = map unused_of c.args.shape.now in
    let e = c.in-Elements.elements in
    let x = elements_over e.is_row e.view.now e.block.now in
    subst (λ (m : Result Made Fault). MakesNew c.element_array.result m) (ap (λ x. full_of d os (operand_of x)) (sym c.in-Elements.is))
    (full_lengths d os x c.in_ok-shape.shape.items c.element_array.result c.in_ok-shape.ensures
    (ap (λ b. refusing.when b (Stmt BadArgument) (Ok x)) (ap (λ s. length s == 0) (sym c.shape-in-Elements.ensures.value) ∙ sym c.is_empty.ensures ∙ c.if-not-is_empty.false))
    (rw c.deref-in-Elements.ensures at c.element_array.ensures))
