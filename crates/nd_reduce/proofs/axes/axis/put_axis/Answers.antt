use Rattle.std.proofs.Common.{◌≡◌, ◌^◌, length, get_or, ap, ◌∙◌, arith}
use Rattle.nd_model.specs.Arrays.View.{item_size}
use Rattle.nd_view.proofs.Made.{axes}
use Rattle.nd_reduce.proofs.axes.Moved.{length-to_end}
use Rattle.nd_shape.proofs.Rearranged.{HasStrides, built_fault, built_view}
use Rattle.nd_reduce.specs.Axes.LastAxis.{put_last, to_end}
use Rattle.nd_reduce.proofs.axes.Unmoved.{unmoved_leads}
use Rattle.nd_reduce.proofs.axes.axis.put_axis.Goals as goal

pub from_strides-requires : goal.from_strides-requires
from_strides-requires c =
    let g = c.args.view.now in let a = c.args.axis in let s = c.args.shape.now in let strides = c.held_strides.result.now in
    let has : HasStrides g strides = record { held = c.held_strides.ensures.held; by = c.held_strides.ensures.places } in
    built_fault g strides has s (put_last a strides) (to_end a) (unmoved_leads g strides a s has c.requires.lengths) _ s c.as_slice.result.now c.offset.result
    (c.in_ok-try_clone.ensures ∙ c.elem.ensures) (λ i. s) (c.as_slice.ensures ∙ c.in_ok-strides.ensures) c.offset.ensures

pub returns : goal.returns
returns c =
    let g = c.args.view.now in let a = c.args.axis in let s = c.args.shape.now in let strides = c.held_strides.result.now in
    let has : HasStrides g strides = record { held = c.held_strides.ensures.held; by = c.held_strides.ensures.places } in
    c.in_ok-put.ensures ∙ built_view g strides has s (put_last a strides) (to_end a) (unmoved_leads g strides a s has c.requires.lengths) _ s c.as_slice.result.now c.offset.result
    (c.in_ok-try_clone.ensures ∙ c.elem.ensures) (λ i. s) (c.as_slice.ensures ∙ c.in_ok-strides.ensures) c.offset.ensures c.writable.result g.writable c.writable.ensures

pub strides_from_end-requires : goal.strides_from_end-requires
strides_from_end-requires c =
    let g = c.args.view.now in let a = c.args.axis in let s = c.args.shape.now in let strides = c.held_strides.result.now in
    let same : length strides ≡ length g.shape = axes (item_size g.element) g.shape strides (get_or g.places 0 0) (2 ^ 64) c.held_strides.ensures.held in
    let long : length g.shape ≡ length s = ap length c.requires.lengths ∙ length-to_end a s in
    omega (arith, same, long, c.requires.axis)
