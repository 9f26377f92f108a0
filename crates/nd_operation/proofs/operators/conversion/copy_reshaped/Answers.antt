use Rattle.std.proofs.Common.{◌≡◌, List, map, length, sym, ap, ◌∙◌}
use Rattle.std.proofs.lemmas.List.{length-map}
use Rattle.nd_model.specs.Arrays.Content.{Content, array_bytes, content_at, content_in_order, element_bytes}
use Rattle.nd_model.specs.Arrays.Strides.{limit_fault}
use Rattle.nd_model.specs.Arrays.Tuple.{elements_of}
use Rattle.nd_model.specs.Arrays.View.{contiguous, item_size}
use Rattle.nd_view.proofs.InOrder.{in_order}
use Rattle.nd_operation.specs.Operators.Contents.{contents_over}
use Rattle.nd_operation.proofs.operators.Creating.{gives_array, new_memory, new_over, within}
use Rattle.nd_operation.proofs.operators.conversion.copy_reshaped.Goals as goal

pub returns : goal.returns
returns c =
    let e = c.args.elements.now in
    let g = e.view.now in
    let shape = c.args.shape.now in
    let cs : List Content = map (content_at g.element e.block.now) g.places in
    let own : length cs ≡ elements_of g.shape = length-map g.places (content_at g.element e.block.now) ∙ e.held.count in
    gives_array g.element shape (content_in_order shape (contents_over g e.block.now)) c.in_ok-copy.copy c.in_ok-block.block
    (within (limit_fault (item_size g.element) shape) (rw (c.size.ensures.value ∙ ap item_size c.elem.ensures) at c.in_ok-check_limits.ensures))
    (c.in_ok-copy.ensures ∙ ap (λ t. contiguous t shape) (c.in_ok-try_clone.ensures ∙ c.elem-2.ensures))
    (c.in_ok-block.ensures ∙ in_order (element_bytes g.element) g.shape cs own ∙ sym (in_order (element_bytes g.element) shape cs (own ∙ sym c.requires))
    ∙ ap (λ cs. array_bytes g.element shape (content_in_order shape cs)) (sym c.soundness.ensures))

pub returns-in_err-check_limits : goal.returns-in_err-check_limits
returns-in_err-check_limits c =
    let e = c.args.elements.now in
    let g = e.view.now in
    let shape = c.args.shape.now in
    new_over g.element shape (content_in_order shape (contents_over g e.block.now)) c.in_err-check_limits.field-0.0 _ c.from_residual.ensures.1
    (rw (c.size.ensures.value ∙ ap item_size c.elem.ensures) at c.in_err-check_limits.ensures)

pub returns-in_err-block : goal.returns-in_err-block
returns-in_err-block c = new_memory _ _ c.from_residual-in_err-block.ensures.1

pub returns-in_err-try_clone : goal.returns-in_err-try_clone
returns-in_err-try_clone c = new_memory _ _ c.from_residual-in_err-try_clone.ensures.1

pub returns-in_err-copy : goal.returns-in_err-copy
returns-in_err-copy c = new_memory _ _ c.from_residual-in_err-copy.ensures.1
