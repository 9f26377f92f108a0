use Rattle.std.proofs.Common.{◌≡◌, List, ℕ, [], ◌∷◌, ◌++◌, OnOk, length, Vec, Global, sym, ap, ◌∙◌, subst, append_assoc}
use Rattle.nd_model.specs.Making.Creation.{shape_of_element}
use Rattle.nd_syntax.specs.declared.trees.tree.Element.{Element}
use Rattle.nd_operation.specs.Operators.Listing.{list_of}
use Rattle.nd_operation.proofs.operators.Listing.{one_length, nested_lengths}
use Rattle.nd_operation.proofs.operators.lists.+push_lengths.Goals as goal

pub returns-in-Some-Single-default : goal.returns-in-Some-Single-default
returns-in-Some-Single-default t c =
    let a = c.in-Some-Single-default in
    c.in_ok-push.ensures.ok
    ∙ ap (λ l. c.args.lengths.now.items ++ l) (sym (one_length c.args.elements.now a.field-0-0.now a.field-0-1.now a.ensures.cases.0 a.field-0-0-0 a.field-0-0-is))

pub returns-in-Some-Nested-default : goal.returns-in-Some-Nested-default
returns-in-Some-Nested-default t c =
    let a = c.in-Some-Nested-default in
    let before = c.args.lengths.now.items in
    let n = length c.args.elements.now in
    let deeper = shape_of_element (list_of c.as_slice.result.now) in
    subst (λ (l : List ℕ). OnOk c.push_lengths.result (c.push_lengths.new.lengths.items ≡ l))
    (ap (λ l. l ++ deeper) c.in_ok-push.ensures.ok ∙ append_assoc before (n ∷ []) deeper
    ∙ ap (λ l. before ++ l)
    (ap (λ es. n ∷ shape_of_element (list_of es)) (c.as_slice.ensures.value ∙ ap (λ (v : Vec Element Global). v.items) a.first-is)
    ∙ sym (nested_lengths c.args.elements.now a.field-0-0.now a.field-0-1.now a.ensures.cases.0 a.first a.field-0-0-is)))
    c.push_lengths.ensures
