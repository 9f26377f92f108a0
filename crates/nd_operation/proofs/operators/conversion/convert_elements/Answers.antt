use Rattle.std.proofs.Common.{ap, ◌∙◌}
use Rattle.nd_model.specs.Making.Creation.{converted_at}
use Rattle.nd_model.specs.Arrays.Strides.{limit_fault}
use Rattle.nd_model.specs.Arrays.View.{contiguous, item_size}
use Rattle.nd_types.specs.Types.{type_of}
use Rattle.nd_operation.specs.Operators.Contents.{elements_operand}
use Rattle.nd_operation.proofs.operators.Creating.{gives_array, new_memory, new_over, within}
use Rattle.nd_operation.proofs.operators.conversion.convert_elements.Goals as goal

pub returns : goal.returns
returns c =
    let t = type_of c.args.elem in
    let e = c.args.elements.now in
    let g = e.view.now in
    gives_array t g.shape (converted_at t (elements_operand e)) c.in_ok-view.view c.in_ok-block.block
    (within (limit_fault (item_size t) g.shape) (rw (c.size.ensures.value, c.shape-shape.ensures.value) at c.in_ok-check_limits.ensures))
    (c.in_ok-view.ensures ∙ ap (contiguous t) c.shape-shape.ensures.value)
    c.in_ok-block.ensures

pub returns-in_err-check_limits : goal.returns-in_err-check_limits
returns-in_err-check_limits c =
    let t = type_of c.args.elem in
    let e = c.args.elements.now in
    new_over t e.view.now.shape (converted_at t (elements_operand e)) c.in_err-check_limits.field-0.0 _ c.from_residual.ensures.1
    (rw (c.size.ensures.value, c.shape-shape.ensures.value) at c.in_err-check_limits.ensures)

pub returns-in_err-block : goal.returns-in_err-block
returns-in_err-block c = new_memory _ _ c.from_residual-in_err-block.ensures.1

pub returns-in_err-view : goal.returns-in_err-view
returns-in_err-view c = new_memory _ _ c.from_residual-in_err-view.ensures.1
