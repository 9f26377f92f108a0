use Rattle.std.proofs.Common.{◌≡◌, ◌^◌, ℕ, ℤ, List, get_or, ◌∙◌}
use Rattle.std.proofs.lemmas.Result.{IfOk-weaker}
use Rattle.nd_model.specs.Arrays.Strides.{parts_fault, places_by}
use Rattle.nd_model.specs.Arrays.View.{item_size}
use Rattle.nd_types.specs.Types.{type_of}
use Rattle.nd_assign.specs.Stretched.{value_places}
use Rattle.nd_assign.proofs.Stretched.{longer, own_strides, length-own, strides_are, stretched_fault, stretched_places}
use Rattle.nd_assign.proofs.stretch.stretch.Goals as goal

pub from_strides-requires : goal.from_strides-requires
from_strides-requires c =
    let g = c.args.value.now in let to : List ℕ = c.args.shape.now in let strides : List ℤ = c.held_strides.result.now in let size = item_size g.element in let at = get_or g.places 0 0 in
    let type : type_of c.in_ok-try_clone.field-0 ≡ g.element = c.in_ok-try_clone.ensures ∙ c.elem.ensures in
    let same : c.as_slice.result.now ≡ longer g.shape to c.requires.fits (own_strides size at g.shape to c.requires.fits strides c.held_strides.ensures.held) (length-own size at g.shape to c.requires.fits strides c.held_strides.ensures.held)
    = strides_are size at g.shape to c.shape.result.now c.shape-2.result.now c.requires.fits strides c.held_strides.ensures.held c.leading_axes-dropped.result c.as_slice.result.now c.leading_axes-dropped.ensures.inside
    c.shape.ensures.value c.shape-2.ensures.value c.leading_axes-dropped.ensures.rest (c.as_slice.ensures ∙ c.in_ok-all.ensures) in
    (λ i. parts_fault (item_size (type i)) to (same i) (c.offset.ensures i) (2 ^ 64))
    ∙ stretched_fault size at g.shape to c.requires.fits strides c.held_strides.ensures.held c.requires.limits

pub returns-clause-places : goal.returns-clause-places
returns-clause-places c =
    let g = c.args.value.now in let to : List ℕ = c.args.shape.now in let strides : List ℤ = c.held_strides.result.now in let size = item_size g.element in let at = get_or g.places 0 0 in
    let same : c.as_slice.result.now ≡ longer g.shape to c.requires.fits (own_strides size at g.shape to c.requires.fits strides c.held_strides.ensures.held) (length-own size at g.shape to c.requires.fits strides c.held_strides.ensures.held)
    = strides_are size at g.shape to c.shape.result.now c.shape-2.result.now c.requires.fits strides c.held_strides.ensures.held c.leading_axes-dropped.result c.as_slice.result.now c.leading_axes-dropped.ensures.inside
    c.shape.ensures.value c.shape-2.ensures.value c.leading_axes-dropped.ensures.rest (c.as_slice.ensures ∙ c.in_ok-all.ensures) in
    let are : places_by c.offset.result c.as_slice.result.now to ≡ value_places g to
    = (λ i. places_by (c.offset.ensures i) (same i) to) ∙ stretched_places size at g.shape to c.requires.fits strides c.held_strides.ensures.held g.places c.held_strides.ensures.places in
    IfOk-weaker c.from_strides.result _ (λ v. v.places ≡ value_places g to) (λ v e. (λ i. (e i).places) ∙ are) c.from_strides.ensures
