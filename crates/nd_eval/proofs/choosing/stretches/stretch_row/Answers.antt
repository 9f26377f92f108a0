use Rattle.std.proofs.Common.{ℕ, List, [], length, sym, ap, ◌∙◌, arith}
use Rattle.std.specs.Prelude.{◌==◌}
use Rattle.nd_model.specs.Arrays.Content.{array_bytes, content_in_order}
use Rattle.nd_model.specs.Arrays.Strides.{limit_fault}
use Rattle.nd_model.specs.Arrays.View.{contiguous, item_size}
use Rattle.nd_model.specs.Indexing.ShapeChoices.{stretch_operand}
use Rattle.nd_operation.specs.Operators.Contents.{contents_over, elements_operand}
use Rattle.nd_operation.specs.Refusals.Faults.{fault_of}
use Rattle.nd_operation.proofs.operators.Creating.{within}
use Rattle.nd_eval.proofs.choosing.Stretching.{row_stretched, row_over, stretched_refused, alone_in_limits, no_axes}
use Rattle.nd_eval.proofs.choosing.stretches.stretch_row.Goals as goal

pub returns-in_err-check_limits : goal.returns-in_err-check_limits
returns-in_err-check_limits c =
    let row = c.args.row.now in
    let g = row.view.now in
    let shape = c.args.shape.now in
    let f = c.in_err-check_limits.field-0.0 in
    let none = no_axes g.shape c.is_empty.result (c.is_empty.ensures ∙ ap (λ (s : List ℕ). length s == 0) c.shape.ensures.value) c.if-not-is_empty.false in
    stretched_refused (stretch_operand (elements_operand row) shape) f _ c.from_residual.ensures.1
    (row_over row.is_row g (contents_over g row.block.now) shape (fault_of f) c.requires none (rw (c.size.ensures.value ∙ ap item_size c.elem.ensures) at c.in_err-check_limits.ensures))

pub returns-in-Ok-stretch : goal.returns-in-Ok-stretch
returns-in-Ok-stretch c =
    let row = c.args.row.now in
    let g = row.view.now in
    let shape = c.args.shape.now in
    let size = c.size.ensures.value ∙ ap item_size c.elem.ensures in
    let none = no_axes g.shape c.is_empty.result (c.is_empty.ensures ∙ ap (λ (s : List ℕ). length s == 0) c.shape.ensures.value) c.if-not-is_empty.false in
    row_stretched row.is_row g (contents_over g row.block.now) shape c.in_ok-element.element c.in-Ok-stretch.view c.in-Ok.block c.requires none
    (within (limit_fault (item_size g.element) shape) (rw size at c.in_ok-check_limits.ensures))
    (alone_in_limits (item_size g.element) (omega (arith, size, c.size.ensures.range)))
    (c.in_ok-element.ensures ∙ ap (λ t. contiguous t []) (c.in_ok-try_clone.ensures ∙ c.elem-2.ensures))
    (c.in-Ok.ensures ∙ ap (λ cs. array_bytes g.element g.shape (content_in_order g.shape cs)) (sym c.soundness.ensures))
    c.in-Ok-stretch.ensures
