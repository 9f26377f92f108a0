use Rattle.std.proofs.Common.{◌≡◌, Ok, true, false, sym, ap, ◌∙◌}
use Rattle.nd_model.specs.Making.Augmenting.{casts_in_place}
use Rattle.nd_model.specs.Arrays.Broadcast.{broadcasts_to}
use Rattle.nd_model.specs.Arrays.Element.{Kind}
use Rattle.nd_model.specs.Making.Elementwise.{element_sort, operand_sort, binary_kind}
use Rattle.nd_model.specs.Making.Operand.{Operand, shape_of}
use Rattle.nd_model.specs.Making.Operators.{Operator}
use Rattle.nd_model.specs.Grammar.Syntax.{BinaryOp}
use Rattle.nd_model.specs.Arrays.View.{Geo}
use Rattle.nd_syntax.specs.Trees.Syntax.{binary_op}
use Rattle.nd_types.specs.Kinds.{kind_of}
use Rattle.nd_ufunc.specs.Elementwise.Arguments.{argument_of}
use Rattle.nd_ufunc.proofs.elementwise.Augmented.{cast_limits, has_exponent_below, has_kind, right_some}
use Rattle.nd_ufunc.proofs.elementwise.in_place.in_place_kind.Goals as goal

pub is_any_exponent_below-requires-clause-numbers :
    goal.is_any_exponent_below-requires-clause-numbers
is_any_exponent_below-requires-clause-numbers c =
    let op : BinaryOp = binary_op c.args.op in let g : Geo = c.args.target.now in let y : Operand = argument_of c.args.right in let k : Kind = kind_of c.in_ok-kind.kind in
    let kind_is : binary_kind (Operator op) (element_sort g.element) (operand_sort y) ≡ Ok k
    = (λ i. binary_kind (Operator op) (sym (c.element_sort.ensures ∙ ap element_sort c.elem.ensures) i) (sym c.argument_sort.ensures i)) ∙ c.in_ok-kind.ensures in
    right_some (Operator op) (element_sort g.element) (operand_sort y) k kind_is

pub is_any_exponent_below-requires-clause-fits :
    goal.is_any_exponent_below-requires-clause-fits
is_any_exponent_below-requires-clause-fits c =
    let g : Geo = c.args.target.now in let y : Operand = argument_of c.args.right in
    let fits : broadcasts_to (shape_of y) g.shape ≡ true
    = (λ i. broadcasts_to (sym c.shape_of.ensures i) (sym c.shape.ensures.value i)) ∙ sym c.broadcasts_to.ensures ∙ c.if-not-broadcasts_to.false in
    fits

pub is_any_exponent_below-requires-clause-limits :
    goal.is_any_exponent_below-requires-clause-limits
is_any_exponent_below-requires-clause-limits c = λ j.
    let g : Geo = c.args.target.now in let k : Kind = kind_of c.in_ok-kind.kind in
    let casts : casts_in_place k g.element ≡ true = ap (casts_in_place k) (sym c.elem-2.ensures) ∙ sym c.casts_in_place.ensures ∙ c.if-not-casts_in_place.false in
    cast_limits k j g.element g.shape casts c.shape.ensures.limits

pub returns-then-below : goal.returns-then-below
returns-then-below c =
    let op : BinaryOp = binary_op c.args.op in let g : Geo = c.args.target.now in let y : Operand = argument_of c.args.right in let k : Kind = kind_of c.in_ok-kind.kind in
    let kind_is : binary_kind (Operator op) (element_sort g.element) (operand_sort y) ≡ Ok k
    = (λ i. binary_kind (Operator op) (sym (c.element_sort.ensures ∙ ap element_sort c.elem.ensures) i) (sym c.argument_sort.ensures i)) ∙ c.in_ok-kind.ensures in
    let casts : casts_in_place k g.element ≡ true = ap (casts_in_place k) (sym c.elem-2.ensures) ∙ sym c.casts_in_place.ensures ∙ c.if-not-casts_in_place.false in
    let right : g.writable ≡ true = sym c.writable.ensures ∙ c.if-not-writable.false in
    let fits : broadcasts_to (shape_of y) g.shape ≡ true
    = (λ i. broadcasts_to (sym c.shape_of.ensures i) (sym c.shape.ensures.value i)) ∙ sym c.broadcasts_to.ensures ∙ c.if-not-broadcasts_to.false in
    has_exponent_below op g y k kind_is casts right fits (sym c.in_ok-below.ensures ∙ c.if-below.true)

pub returns : goal.returns
returns c =
    let op : BinaryOp = binary_op c.args.op in let g : Geo = c.args.target.now in let y : Operand = argument_of c.args.right in let k : Kind = kind_of c.in_ok-kind.kind in
    let kind_is : binary_kind (Operator op) (element_sort g.element) (operand_sort y) ≡ Ok k
    = (λ i. binary_kind (Operator op) (sym (c.element_sort.ensures ∙ ap element_sort c.elem.ensures) i) (sym c.argument_sort.ensures i)) ∙ c.in_ok-kind.ensures in
    let casts : casts_in_place k g.element ≡ true = ap (casts_in_place k) (sym c.elem-2.ensures) ∙ sym c.casts_in_place.ensures ∙ c.if-not-casts_in_place.false in
    let right : g.writable ≡ true = sym c.writable.ensures ∙ c.if-not-writable.false in
    let fits : broadcasts_to (shape_of y) g.shape ≡ true
    = (λ i. broadcasts_to (sym c.shape_of.ensures i) (sym c.shape.ensures.value i)) ∙ sym c.broadcasts_to.ensures ∙ c.if-not-broadcasts_to.false in
    has_kind op g y k kind_is casts right fits (sym c.in_ok-below.ensures ∙ c.if-below.false)
