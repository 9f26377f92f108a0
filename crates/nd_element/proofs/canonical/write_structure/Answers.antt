use Rattle.std.proofs.Common.{rules, ◌≡◌, ◌+◌, ◌<◌, ◌≤◌, ℕ, List, length, get_or, take, replicate, take_all, ℤ, sym, ap, ◌∙◌, subst, arith}
use Rattle.std.specs.List.{All, flat_map}
use Rattle.std.specs.Int.{w128}
use Rattle.std.specs.Int.RustNames.{FitsSigned}
use Rattle.std.proofs.lemmas.List.{get_or-map, length-map}
use Rattle.std.proofs.lemmas.Int.{to_z-of_z}
use Rattle.nd_model.specs.Arrays.Element.{size_of, bytes_of, with_bytes}
use Rattle.nd_model.specs.Arrays.View as view
use Rattle.nd_types.specs.Fields.{field_of, fields_of}
use Rattle.nd_types.specs.declared.field.Field.{Field}
use Rattle.nd_types.proofs.Sized.{some_bytes}
use Rattle.nd_model.specs.Cells.Session.{put}
use Rattle.nd_element.proofs.Structures.{writes, field_more, fields_written}
use Rattle.nd_element.proofs.canonical.write_structure.Goals as goal

-- the field at an index
named : (items : List Field) (i : ℕ) (item : Field) → i < length items → item ≡ get_or items i item → get_or (fields_of items) i (field_of item) ≡ field_of item
named items i item lt is = get_or-map field_of items i item (field_of item) lt ∙ ap field_of (sym is)

counted : (items : List Field) (i : ℕ) → i < length items → i < length (fields_of items)
counted items i lt = omega (arith, length-map items field_of)

lies : (items : List Field) (fields : List view.Field) (size i : ℕ) (item : Field) → fields_of items ≡ fields → All (λ (f : view.Field). f.at + size_of f.element.kind ≤ size) fields
    → i < length items → item ≡ get_or items i item → item.at + size_of item.elem.kind ≤ size
lies items fields size i item same inside lt is =
    let all : All (λ (f : view.Field). f.at + size_of f.element.kind ≤ size) (fields_of items) = subst (All (λ (f : view.Field). f.at + size_of f.element.kind ≤ size)) (sym same) inside in
    subst (λ (f : view.Field). f.at + size_of f.element.kind ≤ size) (named items i item lt is) (all i (field_of item) (counted items i lt))

pub overflow_add-place : goal.overflow_add-place
overflow_add-place c =
    let items = c.fields-field-items.result.now in
    let fit : c.field-item.result.at + size_of c.field-item.result.elem.kind ≤ c.args.structure.now.1
    = lies items c.args.structure.now.0 c.args.structure.now.1 c.loop-field.field-index c.field-item.result c.fields-field-items.ensures.value c.fields-field-items.ensures.inside c.loop-field-test.true c.field-item.is in
    omega (arith, fit, some_bytes c.field-item.result.elem.kind, c.requires.end)

pub store_at-requires : goal.store_at-requires
store_at-requires c =
    let items = c.fields-field-items.result.now in
    let fit : c.field-item.result.at + size_of c.field-item.result.elem.kind ≤ c.args.structure.now.1
    = lies items c.args.structure.now.0 c.args.structure.now.1 c.loop-field.field-index c.field-item.result c.fields-field-items.ensures.value c.fields-field-items.ensures.inside c.loop-field-test.true c.field-item.is in
    let long : length c.loop-field.out ≡ c.args.structure.now.1 = c.loop-field.invariant.0 in
    omega arith

pub loop-field-preserved : goal.loop-field-preserved
loop-field-preserved c =
    let items = c.fields-field-items.result.now in let i = c.loop-field.field-index in let item = c.field-item.result in
    let lt = c.loop-field-test.true in
    let fit : item.at + size_of item.elem.kind ≤ c.args.structure.now.1
    = lies items c.args.structure.now.0 c.args.structure.now.1 i item c.fields-field-items.ensures.value c.fields-field-items.ensures.inside lt c.field-item.is in
    let long : length c.loop-field.out ≡ c.args.structure.now.1 = c.loop-field.invariant.0 in
    let z : ℤ = c.number-value.result in
    let small : FitsSigned w128 z = search rules in (
      c.store_at.ensures.len ∙ long,
      field_more c.args.bytes.now c.args.place (fields_of items) i (field_of item) (field_of item) z (replicate c.args.structure.now.1 0) c.loop-field.out c.store_at.new.bytes
          (counted items i lt) (named items i item lt c.field-item.is) c.number-value.ensures.value (omega arith) c.loop-field.invariant.1
          (c.store_at.ensures.bytes ∙ ap (λ z. with_bytes c.loop-field.out item.at (bytes_of item.elem z)) (to_z-of_z w128 z small)),
    )

pub returns : goal.returns
returns c =
    let items = c.fields-field-items.result.now in
    let all : take c.loop-field.field-index (fields_of items) ≡ c.args.structure.now.0
    = take_all c.loop-field.field-index (fields_of items) (omega (arith, c.loop-field-test.false, length-map items field_of)) ∙ c.fields-field-items.ensures.value in
    c.loop-field.invariant.1
    ∙ ap (λ ws. put ws (replicate c.args.structure.now.1 0))
    (ap (flat_map (writes c.args.bytes.now c.args.place)) all ∙ sym (fields_written c.args.bytes.now c.args.place c.args.structure.now.0))
