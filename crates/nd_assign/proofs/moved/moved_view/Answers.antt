use Rattle.std.proofs.Common.{◌≡◌, ◌-◌, ◌^◌, map, get_or, refl, ap, ◌∙◌}
use Rattle.std.proofs.lemmas.Result.{IfOk-weaker}
use Rattle.nd_model.specs.Arrays.Strides.{parts_fault, places_by}
use Rattle.nd_model.specs.Arrays.View.{item_size}
use Rattle.nd_types.specs.Types.{type_of}
use Rattle.nd_assign.proofs.Nearer.{moved_fault, moved_places}
use Rattle.nd_assign.proofs.moved.moved_view.Goals as goal

pub from_strides-requires : goal.from_strides-requires
from_strides-requires c =
    let g = c.args.view.now in
    let type : type_of c.in_ok-try_clone.field-0 ≡ g.element = c.in_ok-try_clone.ensures ∙ c.elem.ensures in
    let start : c.saturating_sub.result ≡ get_or g.places 0 0 - c.args.by = c.saturating_sub.ensures ∙ ap (λ o. o - c.args.by) c.offset.ensures in
    (λ i. parts_fault (item_size (type i)) (c.shape.ensures.value i) c.held_strides.result.now (start i) (2 ^ 64))
    ∙ moved_fault (item_size g.element) c.args.by (get_or g.places 0 0) g.shape c.held_strides.result.now c.held_strides.ensures.held g.places c.held_strides.ensures.places refl c.requires

pub returns-clause-places : goal.returns-clause-places
returns-clause-places c =
    let g = c.args.view.now in
    let start : c.saturating_sub.result ≡ get_or g.places 0 0 - c.args.by = c.saturating_sub.ensures ∙ ap (λ o. o - c.args.by) c.offset.ensures in
    let are : places_by c.saturating_sub.result c.held_strides.result.now c.shape.result.now ≡ map (λ p. p - c.args.by) g.places
    = (λ i. places_by (start i) c.held_strides.result.now (c.shape.ensures.value i))
    ∙ moved_places (item_size g.element) c.args.by (get_or g.places 0 0) g.shape c.held_strides.result.now c.held_strides.ensures.held g.places c.held_strides.ensures.places refl c.requires in
    IfOk-weaker c.from_strides.result _ (λ v. v.places ≡ map (λ p. p - c.args.by) g.places) (λ v e. (λ i. (e i).places) ∙ are) c.from_strides.ensures
