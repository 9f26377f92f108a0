use Rattle.std.proofs.Common.{◌≡◌, ◌^◌, length, ap, ◌∙◌, arith}
use Rattle.nd_model.specs.Arrays.Strides.{parts_fault}
use Rattle.nd_model.specs.Arrays.View.{item_size}
use Rattle.nd_shape.proofs.Reshapes.{empty_fault, empty_places}
use Rattle.nd_shape.proofs.reshaping.empty_view.Goals as goal

pub from_strides-requires : goal.from_strides-requires
from_strides-requires c =
    let g = c.args.view.now in
    let shape = c.args.shape.now in
    let same : length c.as_slice.result.now ≡ length shape = omega (arith, ap length c.as_slice.ensures, c.in_ok-steps.ensures.len) in
    (λ i. parts_fault (item_size ((c.in_ok-elem.ensures ∙ c.elem.ensures) i)) shape c.as_slice.result.now 0 (2 ^ 64)) ∙ empty_fault (item_size g.element) shape c.as_slice.result.now c.requires.limits same c.requires.none.0

pub returns : goal.returns
returns c =
    let g = c.args.view.now in
    let shape = c.args.shape.now in
    let gone : length g.places ≡ 0 = omega (arith, c.count-count.ensures.value, c.count-count.ensures.elements, c.requires.none.1) in
    let places = empty_places shape c.as_slice.result.now g.places c.requires.none.0 gone in
    c.in_ok-empty.ensures ∙ (λ i. record { element = (c.in_ok-elem.ensures ∙ c.elem.ensures) i; shape = shape; writable = c.writable.ensures i; places = places i })
