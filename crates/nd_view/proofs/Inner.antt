-- The fields of a structure lie inside it.
use Rattle.std.proofs.Common.{◌≡◌, ℕ, ◌+◌, ◌<◌, ◌≤◌, ◌^◌, List, length, get_or, sym, ap, subst, ◌∙◌, arith}
use Rattle.std.specs.List.{All}
use Rattle.std.proofs.lemmas.List.{get_or-map, length-map}
use Rattle.nd_model.specs.Arrays.Element.{size_of}
use Rattle.nd_types.specs.Fields.{field_of, fields_of}
use Rattle.nd_types.specs.declared.field.Field.{Field}

pub ends : (place : ℕ) (fields : List Field) (i : ℕ) (f : Field) → All (λ h. place + (h.at + size_of h.element.kind) ≤ 2 ^ 64) (fields_of fields) → i < length fields → f ≡ get_or fields i f
    → place + (f.at + size_of f.elem.kind) ≤ 2 ^ 64
ends place fields i f all lt is =
    let here : get_or (fields_of fields) i (field_of f) ≡ field_of f = get_or-map field_of fields i f (field_of f) lt ∙ sym (ap field_of is) in
    let long : i < length (fields_of fields) = omega (arith, lt, length-map fields field_of) in
    subst (λ h. place + (h.at + size_of h.element.kind) ≤ 2 ^ 64) here (all i (field_of f) long)
