use Rattle.std.proofs.Common.{◌≡◌, ◌+◌, ◌∷◌, ◌++◌, [], map, drop, string_bytes, sym, ap, ◌∙◌, arith}
use Rattle.std.proofs.lemmas.List.{map-append}
use Rattle.nd_model.specs.Arrays.Content.{fields_size}
use Rattle.nd_model.specs.Arrays.Types.{fields_from}
use Rattle.nd_model.specs.Arrays.View as view
use Rattle.nd_syntax.specs.Trees.Calls.{field_type_of}
use Rattle.nd_types.specs.Fields.{field_of, fields_of}
use Rattle.nd_syntax.proofs.dtypes.InOrder.{onto, one_field, size_more, next_field}
use Rattle.nd_syntax.proofs.dtypes.types.fields_of.Goals as goal

pub loop-field-preserved : goal.loop-field-preserved
loop-field-preserved c =
    let types = c.args.types.now in
    let k = c.loop-field.field-index in
    let x = c.field-item.result in
    let at = c.loop-field.at in
    let e = c.in-Some.elem in
    let old = c.loop-field.fields.items in
    let rest = map field_type_of (drop (k + 1) types) in
    let f : view.Field = record { name = string_bytes x.name; at = at; element = e } in
    let name : string_bytes c.in_ok-name.name ≡ string_bytes x.name = c.in_ok-name.ensures.ok ∙ c.as_str.ensures.value in
    let added : fields_of c.push.new.self.items ≡ fields_of old ++ f ∷ []
    = ap (map field_of) c.in_ok-push.ensures.items ∙ map-append field_of old _ ∙ ap (λ n. fields_of old ++ record { name = n; at = at; element = e } ∷ []) name in
    let more = size_more (fields_of old) f in
    let whole = ap fields_size added in
    let so_far = c.loop-field.invariant.size in
    let small = c.loop-field.invariant.small in
    record {
      same = c.loop-field.invariant.same
          ∙ ap (λ l. onto (fields_of old) (fields_from at (map field_type_of l))) (next_field types k x c.loop-field-test.true c.field-item.is)
          ∙ one_field (fields_of old) (field_type_of x) rest at e (sym c.element_named.ensures ∙ c.in-Some.is)
          ∙ (λ i. onto (sym added i) (fields_from (at + sym c.size.ensures.value i) rest));
      size = omega (arith, c.size.ensures.value);
      small = omega (arith, c.size.ensures.range);
    }
