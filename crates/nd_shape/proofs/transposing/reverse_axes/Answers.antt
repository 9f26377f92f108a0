use Rattle.std.proofs.Common.{length, ◌∙◌}
use Rattle.nd_model.specs.Indexing.Transposing.{count_down}
use Rattle.nd_model.proofs.Transposed.{down_is}
use Rattle.nd_shape.proofs.Ordered.{order_fault, order_view}
use Rattle.nd_shape.proofs.transposing.reverse_axes.Goals as goal

pub from_strides-requires : goal.from_strides-requires
from_strides-requires c =
    let g = c.args.view.now in
    order_fault g c.held_strides.result.now (record { held = c.held_strides.ensures.held; by = c.held_strides.ensures.places }) count_down (down_is (length g.shape))
    c.shape.result.now c.shape.ensures.value _ c.as_slice.result.now c.as_slice-2.result.now c.offset.result (c.in_ok-try_clone.ensures ∙ c.elem.ensures)
    (c.as_slice.ensures ∙ c.in_ok-layout.ensures.lengths) (c.as_slice-2.ensures ∙ c.in_ok-layout.ensures.strides) c.offset.ensures

pub returns : goal.returns
returns c =
    let g = c.args.view.now in
    let same = order_view g c.held_strides.result.now (record { held = c.held_strides.ensures.held; by = c.held_strides.ensures.places }) count_down (down_is (length g.shape))
    c.shape.result.now c.shape.ensures.value _ c.as_slice.result.now c.as_slice-2.result.now c.offset.result (c.in_ok-try_clone.ensures ∙ c.elem.ensures)
    (c.as_slice.ensures ∙ c.in_ok-layout.ensures.lengths) (c.as_slice-2.ensures ∙ c.in_ok-layout.ensures.strides) c.offset.ensures c.writable.result c.writable.ensures in
    c.in_ok-reversed.ensures ∙ same
