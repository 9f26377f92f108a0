use Rattle.std.proofs.Common.{◌≡◌, option_map, [], Ok, sym, ap, ◌∙◌}
use Rattle.nd_model.specs.Making.Conversion.{converts}
use Rattle.nd_model.specs.Arrays.View.{Structure, item_size}
use Rattle.nd_model.specs.Cells.Refusing as refusing
use Rattle.nd_model.specs.Arrays.Strides.{limit_fault}
use Rattle.nd_model.specs.Arrays.Broadcast.{in_limits}
use Rattle.nd_model.specs.Making.Creation.{operand_misfit, unless_misfit, uniform, converted_at, full_array}
use Rattle.nd_types.specs.Types.{type_of}
use Rattle.nd_syntax.specs.Trees.Calls.{dtype_of}
use Rattle.nd_operation.specs.Operators.Contents.{elements_operand}
use Rattle.nd_operation.specs.Refusals.Faults.{fault_of}
use Rattle.nd_operation.proofs.operators.Creating.{new_refused, over}
use Rattle.nd_operation.proofs.operators.Converting.{structure_from, type_converts}
use Rattle.nd_operation.proofs.operators.conversion.element_array.Goals as goal

pub structure_copies-requires-clause-type_is : goal.structure_copies-requires-clause-type_is
structure_copies-requires-clause-type_is c =
    let s = c.in_default.field-0.value in
    let g = c.args.elements.now.view.now in
    let same : type_of c.in_ok-elem.elem ≡ Structure s.0 s.1 = ap type_of c.in_default.is in
    same ∙ sym (structure_from g.element s.0 s.1 (ap (converts g.element) (sym same) ∙ type_converts (option_map dtype_of c.args.dtype.now) c.args.elements.now.is_row g c.args.elements.now.block.now (type_of c.in_ok-elem.elem) c.in_ok-elem.ensures))

pub returns-in_err-check_limits : goal.returns-in_err-check_limits
returns-in_err-check_limits c =
    let o = elements_operand c.args.elements.now in
    let shape = c.args.shape.now in
    let t = type_of c.in_ok-elem.elem in
    let f = c.in_err-check_limits.field-0.0 in
    new_refused (full_array (option_map dtype_of c.args.dtype.now) shape o) f _ c.from_residual-in_err-check_limits.ensures.1
    (ap (λ r. refusing.◌>>=◌ r (λ t. in_limits t shape (unless_misfit (operand_misfit t o) (Ok (uniform t shape (converted_at t o [])))))) c.in_ok-elem.ensures
    ∙ over (limit_fault (item_size t) shape) _ (fault_of f) (rw c.size.ensures.value at c.in_err-check_limits.ensures))
