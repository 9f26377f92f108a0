use Rattle.std.proofs.Common.{◌+◌, drop, ap, ap₂, sym, ◌∙◌, map}
use Rattle.std.proofs.lemmas.List.{drop_all}
use Rattle.nd_model.specs.Grammar.Cells.{elements_of}
use Rattle.nd_model.specs.Making.Creation.{has_shape, have_shape, shape_of_element}
use Rattle.nd_syntax.specs.Trees.Syntax.{element_of}
use Rattle.nd_operation.proofs.operators.InTurn.{next_item}
use Rattle.nd_operation.proofs.operators.Listing.{nested_elements, empty_shape, other_count, same_count, next_shaped, not_shaped}
use Rattle.nd_operation.proofs.operators.lists.+shape.Goals as goal

pub has_shape_of-returns-in-Nested-Nested : goal.has_shape_of-returns-in-Nested-Nested
has_shape_of-returns-in-Nested-Nested t c =
    let a = c.in-Nested-Nested in
    c.list_has_shape_of.ensures
    ∙ ap₂ (λ x y. has_shape (shape_of_element x) y) (nested_elements c.args.other.now a.others a.is-0 c.as_slice.result.now c.as_slice.ensures.value) (nested_elements c.args.element.now a.elements a.is-1 c.as_slice-in-Nested-Nested.result.now c.as_slice-in-Nested-Nested.ensures.value)

pub list_has_shape_of-returns-in_default : goal.list_has_shape_of-returns-in_default
list_has_shape_of-returns-in_default t c = c.is_empty.ensures ∙ sym (empty_shape c.args.others.now c.args.elements.now c.in_default.ensures.cases)

pub list_has_shape_of-returns-then-elements-others : goal.list_has_shape_of-returns-then-elements-others
list_has_shape_of-returns-then-elements-others t c = sym (other_count c.args.others.now c.args.elements.now c.if-elements-others.true)

pub list_has_shape_of-returns-then-not-has_shape_of : goal.list_has_shape_of-returns-then-not-has_shape_of
list_has_shape_of-returns-then-not-has_shape_of t c =
    let a = c.in-Some in
    let lengths = shape_of_element (element_of a.first.now) in
    let xs = c.args.elements.now in
    let i = c.loop-element.element-index in
    sym (same_count c.args.others.now xs a.first.now a.field-0-1.now a.ensures.cases.0 c.if-elements-others.false
    ∙ not_shaped lengths xs c.element-item.result (drop i xs) (drop (i + 1) xs) c.loop-element.invariant (next_item xs i c.element-item.result c.loop-element-test.true c.element-item.is)
    (sym c.has_shape_of.ensures ∙ c.if-not-has_shape_of.true))

pub list_has_shape_of-loop-element-preserved : goal.list_has_shape_of-loop-element-preserved
list_has_shape_of-loop-element-preserved t c =
    let xs = c.args.elements.now in
    let i = c.loop-element.element-index in
    next_shaped (shape_of_element (element_of c.in-Some.first.now)) xs c.element-item.result (drop i xs) (drop (i + 1) xs) c.loop-element.invariant
    (next_item xs i c.element-item.result c.loop-element-test.true c.element-item.is) (sym c.has_shape_of.ensures ∙ c.if-not-has_shape_of.false)

pub list_has_shape_of-returns : goal.list_has_shape_of-returns
list_has_shape_of-returns t c =
    let a = c.in-Some in
    let lengths = shape_of_element (element_of a.first.now) in
    sym (same_count c.args.others.now c.args.elements.now a.first.now a.field-0-1.now a.ensures.cases.0 c.if-elements-others.false
    ∙ c.loop-element.invariant ∙ ap (λ es. have_shape lengths (elements_of (map element_of es))) (drop_all _ _ c.loop-element-test.false))
