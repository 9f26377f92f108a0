use Rattle.std.proofs.Common.{◌≡◌, ◌≢◌, ℕ, true, false, pos, sym, ap, ◌∙◌, arith}
use Rattle.std.specs.Prelude.{Ok, ◌==◌}
use Rattle.std.specs.Option.{option_map}
use Rattle.std.proofs.lemmas.Bool.Decides.{nat_tests}
use Rattle.nd_model.specs.Making.Creation.{is_number_type}
use Rattle.nd_model.specs.Arrays.Element.{size_of}
use Rattle.nd_model.specs.Indexing.Recasting.{with_last, can_recast, recast_shape}
use Rattle.nd_model.specs.Arrays.Strides.{IsInLimits, limit_fault}
use Rattle.nd_model.specs.Arrays.View.{item_size}
use Rattle.nd_view.specs.Faults.{view_fault_of}
use Rattle.nd_shape.specs.Recasts.{with_last_step}
use Rattle.nd_shape.proofs.Recasts.{recast_fault, recast_is}
use Rattle.nd_shape.proofs.recasting.view_as.Goals as goal

differ : (a b c d : ℕ) → a ≡ c → b ≡ d → a ≢ b → (c == d) ≡ false
differ a b c d e f g = grind (arith, nat_tests)

pub from_strides-requires-2 : goal.from_strides-requires-2
from_strides-requires-2 c =
    let g = c.args.view.now in
    let e = c.args.elem in
    let can : can_recast e g ≡ true = c.in-Some.ensures.0 in
    let strides = c.held_strides-2.result.now in
    let lengths = c.in_ok-layout.ensures.lengths ∙ (λ i. with_last (c.shape-2.ensures.value i) (c.in-Some.ensures.1 i)) in
    let limits : IsInLimits (size_of e.kind) (recast_shape e g)
    = (λ i. limit_fault (sym c.size-size.ensures.value i) (sym (c.as_slice.ensures ∙ lengths) i)) ∙ sym c.limit_fault.ensures ∙ ap (option_map view_fault_of) c.in_default-limit_fault.is in
    recast_fault g strides (record { held = c.held_strides-2.ensures.held; by = c.held_strides-2.ensures.places }) e can c.as_slice-2.result.now c.as_slice-3.result.now c.offset-2.result
    (c.as_slice-2.ensures ∙ lengths) (c.as_slice-3.ensures ∙ c.in_ok-layout.ensures.strides ∙ ap (λ n. with_last_step strides (pos n)) c.size-size.ensures.value) c.offset-2.ensures limits

pub returns : goal.returns
returns c =
    let g = c.args.view.now in
    let e = c.args.elem in
    let can : can_recast e g ≡ true = c.in-Some.ensures.0 in
    let strides = c.held_strides-2.result.now in
    let lengths = c.in_ok-layout.ensures.lengths ∙ (λ i. with_last (c.shape-2.ensures.value i) (c.in-Some.ensures.1 i)) in
    let limits : IsInLimits (size_of e.kind) (recast_shape e g)
    = (λ i. limit_fault (sym c.size-size.ensures.value i) (sym (c.as_slice.ensures ∙ lengths) i)) ∙ sym c.limit_fault.ensures ∙ ap (option_map view_fault_of) c.in_default-limit_fault.is in
    let other : (item_size g.element == size_of e.kind) ≡ false
    = differ c.size.result c.size-size.result (item_size g.element) (size_of e.kind) (c.size.ensures.value ∙ ap item_size c.elem.ensures) c.size-size.ensures.value c.if-size.false in
    let same = recast_is g strides (record { held = c.held_strides-2.ensures.held; by = c.held_strides-2.ensures.places }) e can c.as_slice-2.result.now c.as_slice-3.result.now c.offset-2.result
    (c.as_slice-2.ensures ∙ lengths) (c.as_slice-3.ensures ∙ c.in_ok-layout.ensures.strides ∙ ap (λ n. with_last_step strides (pos n)) c.size-size.ensures.value) c.offset-2.ensures c.writable-2.result c.writable-2.ensures in
    let numbers : is_number_type g.element ≡ true = sym c.holds_numbers.ensures ∙ c.if-not-holds_numbers.false in
    rw (other, numbers, can, limits) (λ i. Ok ((c.in_ok-recast.ensures ∙ same) i))
