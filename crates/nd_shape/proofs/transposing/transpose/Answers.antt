use Rattle.std.proofs.Common.{◌≡◌, true, length, sym, ap, ◌∙◌}
use Rattle.std.specs.Prelude.{Ok}
use Rattle.nd_model.specs.Indexing.Transposing.{axes_of, is_order}
use Rattle.nd_model.proofs.Transposed.{order_is}
use Rattle.nd_shape.proofs.Ordered.{order_fault, order_view}
use Rattle.nd_shape.proofs.transposing.transpose.Goals as goal

pub from_strides-requires : goal.from_strides-requires
from_strides-requires c =
    let g = c.args.view.now in
    let zs = c.args.axes.now in
    let order : is_order (length g.shape) zs ≡ true = ap (λ s. is_order (length s) zs) (sym c.shape-shape.ensures.value) ∙ sym c.is_order.ensures ∙ c.if-not-is_order.false in
    order_fault g c.held_strides.result.now (record { held = c.held_strides.ensures.held; by = c.held_strides.ensures.places }) (λ n. axes_of n zs) (order_is (length g.shape) zs order)
    c.shape-shape.result.now c.shape-shape.ensures.value _ c.as_slice.result.now c.as_slice-2.result.now c.offset.result (c.in_ok-try_clone.ensures ∙ c.elem.ensures)
    (c.as_slice.ensures ∙ c.in_ok-layout.ensures.lengths) (c.as_slice-2.ensures ∙ c.in_ok-layout.ensures.strides) c.offset.ensures

pub returns : goal.returns
returns c =
    let g = c.args.view.now in
    let zs = c.args.axes.now in
    let order : is_order (length g.shape) zs ≡ true = ap (λ s. is_order (length s) zs) (sym c.shape-shape.ensures.value) ∙ sym c.is_order.ensures ∙ c.if-not-is_order.false in
    let same = order_view g c.held_strides.result.now (record { held = c.held_strides.ensures.held; by = c.held_strides.ensures.places }) (λ n. axes_of n zs) (order_is (length g.shape) zs order)
    c.shape-shape.result.now c.shape-shape.ensures.value _ c.as_slice.result.now c.as_slice-2.result.now c.offset.result (c.in_ok-try_clone.ensures ∙ c.elem.ensures)
    (c.as_slice.ensures ∙ c.in_ok-layout.ensures.lengths) (c.as_slice-2.ensures ∙ c.in_ok-layout.ensures.strides) c.offset.ensures c.writable.result c.writable.ensures in
    rw order (λ i. Ok ((c.in_ok-transposed.ensures ∙ same) i))
