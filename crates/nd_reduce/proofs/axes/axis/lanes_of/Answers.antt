use Rattle.std.proofs.Common.{◌<◌, ℕ, length, Option, sym, ap, ◌∙◌, subst}
use Rattle.nd_shape.proofs.Rearranged.{HasStrides, built_fault, built_view}
use Rattle.nd_reduce.specs.Axes.Axes.{HasAxis}
use Rattle.nd_reduce.specs.Axes.LastAxis.{from_end, lanes_of, to_end}
use Rattle.nd_reduce.proofs.axes.Moved.{moved_leads}
use Rattle.nd_reduce.proofs.axes.axis.lanes_of.Goals as goal

pub from_strides-requires : goal.from_strides-requires
from_strides-requires c =
    let g = c.args.view.now in let a = c.in-Some.axis in let strides = c.held_strides.result.now in
    let has : HasStrides g strides = record { held = c.held_strides.ensures.held; by = c.held_strides.ensures.places } in
    let lt : a < length g.shape = subst (λ (o : Option ℕ). HasAxis o (length g.shape)) c.in-Some.is c.requires in
    built_fault g strides has (to_end a g.shape) (to_end a strides) (from_end a) (moved_leads g strides a has lt) _ c.as_slice.result.now c.as_slice-2.result.now c.offset.result
    (c.in_ok-try_clone.ensures ∙ c.elem.ensures) (c.as_slice.ensures ∙ c.in_ok-lengths.ensures ∙ ap (to_end a) c.shape.ensures.value) (c.as_slice-2.ensures ∙ c.in_ok-strides.ensures) c.offset.ensures

pub returns : goal.returns
returns c =
    let g = c.args.view.now in let a = c.in-Some.axis in let strides = c.held_strides.result.now in
    let has : HasStrides g strides = record { held = c.held_strides.ensures.held; by = c.held_strides.ensures.places } in
    let lt : a < length g.shape = subst (λ (o : Option ℕ). HasAxis o (length g.shape)) c.in-Some.is c.requires in
    let same = built_view g strides has (to_end a g.shape) (to_end a strides) (from_end a) (moved_leads g strides a has lt) _ c.as_slice.result.now c.as_slice-2.result.now c.offset.result
    (c.in_ok-try_clone.ensures ∙ c.elem.ensures) (c.as_slice.ensures ∙ c.in_ok-lengths.ensures ∙ ap (to_end a) c.shape.ensures.value) (c.as_slice-2.ensures ∙ c.in_ok-strides.ensures) c.offset.ensures
    c.writable.result g.writable c.writable.ensures in
    c.in_ok-lanes.ensures ∙ same ∙ ap (lanes_of g) (sym c.in-Some.is)
