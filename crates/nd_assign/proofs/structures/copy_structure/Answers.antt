use Rattle.std.proofs.Common.{rules, ◌≡◌, ◌+◌, ◌<◌, ◌≤◌, ℕ, ℤ, List, [], ◌∷◌, length, drop, get_or, sym, ap, ◌∙◌, subst, arith, add-one, drop-cons}
use Rattle.std.specs.List.{All}
use Rattle.std.specs.Int.{w128}
use Rattle.std.specs.Int.RustNames.{FitsSigned}
use Rattle.std.proofs.lemmas.List.{get_or-map, length-map, drop_all}
use Rattle.std.proofs.lemmas.Int.{to_z-of_z}
use Rattle.nd_model.specs.Arrays.Content.{field_writes}
use Rattle.nd_model.specs.Arrays.Element.{size_of, bytes_of, with_bytes}
use Rattle.nd_model.specs.Cells.Session.{put}
use Rattle.nd_model.specs.Arrays.View as view
use Rattle.nd_types.specs.Fields.{field_of, fields_of}
use Rattle.nd_types.specs.declared.field.Field.{Field}
use Rattle.nd_assign.proofs.Fielded.{numbers_in, field_more, fields_done}
use Rattle.nd_assign.proofs.structures.copy_structure.Goals as goal

-- the field at an index
named : (items : List Field) (i : ℕ) (item : Field) → i < length items → item ≡ get_or items i item → get_or (fields_of items) i (field_of item) ≡ field_of item
named items i item lt is = get_or-map field_of items i item (field_of item) lt ∙ ap field_of (sym is)

counted : (items : List Field) (i : ℕ) → i < length items → i < length (fields_of items)
counted items i lt = omega (arith, length-map items field_of)

lies : (items : List Field) (fields : List view.Field) (size i : ℕ) (item : Field) → fields_of items ≡ fields → All (λ (f : view.Field). f.at + size_of f.element.kind ≤ size) fields
    → i < length items → item ≡ get_or items i item → item.at + size_of item.elem.kind ≤ size
lies items fields size i item same inside lt is =
    let all : All (λ (f : view.Field). f.at + size_of f.element.kind ≤ size) (fields_of items) = subst (All (λ (f : view.Field). f.at + size_of f.element.kind ≤ size)) (sym same) inside in
    subst (λ (f : view.Field). f.at + size_of f.element.kind ≤ size) (named items i item lt is) (all i (field_of item) (counted items i lt))

here : (items : List Field) (i : ℕ) (item : Field) → i < length items → item ≡ get_or items i item → drop i (fields_of items) ≡ field_of item ∷ drop (i + 1) (fields_of items)
here items i item lt is = rw add-one (drop-cons (fields_of items) i (field_of item) (counted items i lt)) ∙ ap (λ f. f ∷ drop (i + 1) (fields_of items)) (named items i item lt is)

pub value_at-number-requires : goal.value_at-number-requires
value_at-number-requires c =
    let items = c.fields-field-items.result.now in
    let fit : c.field-item.result.at + size_of c.field-item.result.elem.kind ≤ c.args.structure.now.1
    = lies items c.args.structure.now.0 c.args.structure.now.1 c.loop-field.field-index c.field-item.result c.fields-field-items.ensures.value c.fields-field-items.ensures.inside c.loop-field-test.true c.field-item.is in
    omega (arith, fit, c.requires.held)

pub store_at-requires : goal.store_at-requires
store_at-requires c =
    let items = c.fields-field-items.result.now in
    let fit : c.field-item.result.at + size_of c.field-item.result.elem.kind ≤ c.args.structure.now.1
    = lies items c.args.structure.now.0 c.args.structure.now.1 c.loop-field.field-index c.field-item.result c.fields-field-items.ensures.value c.fields-field-items.ensures.inside c.loop-field-test.true c.field-item.is in
    omega (arith, fit, c.requires.out, c.loop-field.invariant.len)

pub loop-field-preserved : goal.loop-field-preserved
loop-field-preserved c =
    let a = c.args in let items = c.fields-field-items.result.now in let i = c.loop-field.field-index in let item = c.field-item.result in let out = c.loop-field.out in
    let lt = c.loop-field-test.true in
    let fit : item.at + size_of item.elem.kind ≤ a.structure.now.1
    = lies items a.structure.now.0 a.structure.now.1 i item c.fields-field-items.ensures.value c.fields-field-items.ensures.inside lt c.field-item.is in
    let z : ℤ = c.value_at-number.result in
    let small : FitsSigned w128 z = search rules in
    record {
      len = c.store_at.ensures.len ∙ c.loop-field.invariant.len;
      rest = field_more a.bytes.now out c.store_at.new.bytes (put (field_writes a.place a.structure.now.0 (numbers_in a.bytes.now a.from a.structure.now.0)) a.out.now) a.place a.from (field_of item)
          (drop (i + 1) (fields_of items)) (drop i (fields_of items)) (here items i item lt c.field-item.is) (omega (arith, fit, c.requires.out, c.loop-field.invariant.len))
          (c.store_at.ensures.bytes ∙ ap (λ y. with_bytes out (a.place + item.at) (bytes_of item.elem y)) (to_z-of_z w128 z small ∙ c.value_at-number.ensures.value))
          c.loop-field.invariant.rest;
    }

pub returns-clause-bytes : goal.returns-clause-bytes
returns-clause-bytes c =
    let a = c.args in let items = c.fields-field-items.result.now in let i = c.loop-field.field-index in
    let none : drop i (fields_of items) ≡ [] = drop_all i (fields_of items) (omega (arith, c.loop-field-test.false, length-map items field_of)) in
    fields_done a.bytes.now c.loop-field.out (put (field_writes a.place a.structure.now.0 (numbers_in a.bytes.now a.from a.structure.now.0)) a.out.now) a.place a.from (drop i (fields_of items)) none c.loop-field.invariant.rest
