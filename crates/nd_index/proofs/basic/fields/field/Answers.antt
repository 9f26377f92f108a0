use Rattle.std.proofs.Common.{◌≡◌, ◌+◌, ◌<◌, ◌≤◌, ◌^◌, get_or, sym, ap, ◌∙◌, arith}
use Rattle.std.specs.Prelude.{Some}
use Rattle.std.specs.List.{All}
use Rattle.nd_model.specs.Arrays.Element.{size_of}
use Rattle.nd_model.specs.Indexing.Selecting as model
use Rattle.nd_model.specs.Arrays.View.{Field, Structure}
use Rattle.nd_types.specs.Fields.{field_of}
use Rattle.nd_types.specs.Types.{type_of}
use Rattle.nd_model.proofs.Fielded.{found_is}
use Rattle.nd_index.proofs.basic.Fielded.{kept_inside, fielded_start, fielded_fault, fielded_view}
use Rattle.nd_index.proofs.basic.fields.field.Goals as goal

pub overflow_add-offset : goal.overflow_add-offset
overflow_add-offset c =
    let g = c.args.view.now in
    let s = c.in-Rec.structure.value in
    let f = field_of c.in-Some.field.now in
    let is : g.element ≡ Structure s.0 s.1 = sym c.elem.ensures ∙ ap type_of c.in-Rec.is in
    let found : model.field_in c.args.name.now s.0 ≡ Some f = ap (model.field_in c.args.name.now) (sym (c.fields.ensures.value ∙ (λ i. (c.deref.ensures i).0))) ∙ sym c.in-Some.ensures in
    let all : All (λ (h : Field). h.at + size_of h.element.kind ≤ s.1) s.0 = rw c.deref.ensures at c.fields.ensures.inside in
    let inside : f.at + size_of f.element.kind ≤ s.1 = found_is (λ h. h.at + size_of h.element.kind ≤ s.1) c.args.name.now s.0 f found all in
    let small : f.at < 2 ^ 64 = omega (arith, c.from.ensures, c.from.type_inv) in
    let below = fielded_start g c.held_strides.result.now c.held_strides.ensures.held c.held_strides.ensures.places s.0 s.1 is f inside small in
    omega (arith, below, c.offset.ensures, c.from.ensures)

pub from_strides-requires : goal.from_strides-requires
from_strides-requires c =
    let g = c.args.view.now in
    let s = c.in-Rec.structure.value in
    let f = field_of c.in-Some.field.now in
    let is : g.element ≡ Structure s.0 s.1 = sym c.elem.ensures ∙ ap type_of c.in-Rec.is in
    let found : model.field_in c.args.name.now s.0 ≡ Some f = ap (model.field_in c.args.name.now) (sym (c.fields.ensures.value ∙ (λ i. (c.deref.ensures i).0))) ∙ sym c.in-Some.ensures in
    let all : All (λ (h : Field). h.at + size_of h.element.kind ≤ s.1) s.0 = rw c.deref.ensures at c.fields.ensures.inside in
    let inside : f.at + size_of f.element.kind ≤ s.1 = found_is (λ h. h.at + size_of h.element.kind ≤ s.1) c.args.name.now s.0 f found all in
    let start : c.offset.result + c.from.result ≡ get_or g.places 0 0 + f.at = λ i. c.offset.ensures i + c.from.ensures i in
    fielded_fault g c.held_strides.result.now c.held_strides.ensures.held c.held_strides.ensures.places s.0 s.1 is f inside c.shape.result.now (c.offset.result + c.from.result) c.shape.ensures.value start

pub returns : goal.returns
returns c =
    let g = c.args.view.now in
    let s = c.in-Rec.structure.value in
    let f = field_of c.in-Some.field.now in
    let is : g.element ≡ Structure s.0 s.1 = sym c.elem.ensures ∙ ap type_of c.in-Rec.is in
    let found : model.field_in c.args.name.now s.0 ≡ Some f = ap (model.field_in c.args.name.now) (sym (c.fields.ensures.value ∙ (λ i. (c.deref.ensures i).0))) ∙ sym c.in-Some.ensures in
    let all : All (λ (h : Field). h.at + size_of h.element.kind ≤ s.1) s.0 = rw c.deref.ensures at c.fields.ensures.inside in
    let inside : f.at + size_of f.element.kind ≤ s.1 = found_is (λ h. h.at + size_of h.element.kind ≤ s.1) c.args.name.now s.0 f found all in
    let start : c.offset.result + c.from.result ≡ get_or g.places 0 0 + f.at = λ i. c.offset.ensures i + c.from.ensures i in
    let same = fielded_view g c.held_strides.result.now c.held_strides.ensures.held c.held_strides.ensures.places s.0 s.1 is f inside c.shape.result.now (c.offset.result + c.from.result) c.shape.ensures.value start
    c.writable.result c.writable.ensures in
    let named : model.field_of c.args.name.now g.element ≡ Some f = ap (model.field_of c.args.name.now) is ∙ ap (model.if_inside s.1) found ∙ kept_inside s.1 f inside in
    rw named (λ i. Some ((c.in_ok-fielded.ensures ∙ same) i))
