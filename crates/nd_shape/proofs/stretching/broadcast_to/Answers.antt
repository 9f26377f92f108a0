use Rattle.std.proofs.Common.{◌≡◌, ◌-◌, true, length, sym, ap, ◌∙◌}
use Rattle.std.specs.Prelude.{Ok}
use Rattle.std.specs.Option.{option_map}
use Rattle.nd_model.specs.Arrays.Broadcast.{broadcasts_to}
use Rattle.nd_model.specs.Arrays.Strides.{IsInLimits, limit_fault}
use Rattle.nd_model.specs.Arrays.View.{item_size}
use Rattle.nd_view.specs.Faults.{view_fault_of}
use Rattle.nd_shape.specs.Stretches.{stretched_strides}
use Rattle.nd_shape.proofs.Stretches.{stretch_fault, stretch_view}
use Rattle.nd_shape.proofs.stretching.broadcast_to.Goals as goal

pub from_strides-requires : goal.from_strides-requires
from_strides-requires c =
    let g = c.args.view.now in
    let to = c.args.shape.now in
    let limits : IsInLimits (item_size g.element) to
    = (λ i. limit_fault ((sym (ap item_size c.elem.ensures) ∙ sym c.size.ensures.value) i) to) ∙ sym c.limit_fault.ensures ∙ ap (option_map view_fault_of) c.in_default.is in
    let fits : broadcasts_to g.shape to ≡ true = ap (λ s. broadcasts_to s to) (sym c.shape-own.ensures.value) ∙ sym c.broadcasts_to.ensures ∙ c.if-not-broadcasts_to.false in
    let strides = c.as_slice.ensures ∙ c.in_ok-strides.ensures ∙ (λ i. stretched_strides (length to - length (c.shape-own.ensures.value i)) (c.shape-own.ensures.value i) c.held_strides.result.now) in
    stretch_fault g c.held_strides.result.now (record { held = c.held_strides.ensures.held; by = c.held_strides.ensures.places }) to limits fits _ c.as_slice.result.now c.offset.result
    (c.in_ok-try_clone.ensures ∙ c.elem-2.ensures) strides c.offset.ensures

pub returns : goal.returns
returns c =
    let g = c.args.view.now in
    let to = c.args.shape.now in
    let limits : IsInLimits (item_size g.element) to
    = (λ i. limit_fault ((sym (ap item_size c.elem.ensures) ∙ sym c.size.ensures.value) i) to) ∙ sym c.limit_fault.ensures ∙ ap (option_map view_fault_of) c.in_default.is in
    let fits : broadcasts_to g.shape to ≡ true = ap (λ s. broadcasts_to s to) (sym c.shape-own.ensures.value) ∙ sym c.broadcasts_to.ensures ∙ c.if-not-broadcasts_to.false in
    let strides = c.as_slice.ensures ∙ c.in_ok-strides.ensures ∙ (λ i. stretched_strides (length to - length (c.shape-own.ensures.value i)) (c.shape-own.ensures.value i) c.held_strides.result.now) in
    let same = stretch_view g c.held_strides.result.now (record { held = c.held_strides.ensures.held; by = c.held_strides.ensures.places }) to limits fits _ c.as_slice.result.now c.offset.result
    (c.in_ok-try_clone.ensures ∙ c.elem-2.ensures) strides c.offset.ensures in
    rw (limits, fits) (λ i. Ok ((c.in_ok-stretched.ensures ∙ same) i))
