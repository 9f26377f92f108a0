use Rattle.std.proofs.Common.{◌≡◌, ◌<◌, ◌^◌, ℕ, Bool, true, false, List, ℤ, length, get_or, sym, ap, subst, ◌∙◌, arith}
use Rattle.std.specs.Prelude.{Ok, if◌then◌else◌}
use Rattle.nd_model.specs.Indexing.Reshaping as model
use Rattle.nd_model.specs.Indexing.Reshaping.{is_even, reshaped_or, shape_for}
use Rattle.nd_model.specs.Arrays.Strides.{IsInLimits}
use Rattle.nd_model.specs.Arrays.Tuple.{elements_of}
use Rattle.nd_model.specs.Arrays.View.{Geo, item_size}
use Rattle.nd_model.proofs.Reshaped.{IsShapeFor, shape_facts, same_limits}
use Rattle.nd_view.proofs.Made.{axes}
use Rattle.nd_shape.specs.NewShapes.{shape_given}
use Rattle.nd_shape.specs.Reshapes.{way_of, steps_for, are_met, leads_to}
use Rattle.nd_shape.proofs.Fronts.{length-steps}
use Rattle.nd_shape.proofs.Rearranged.{HasStrides}
use Rattle.nd_shape.proofs.Reshapes.{leads_is, reshaped_fault, reshaped_is}
use Rattle.nd_shape.proofs.reshaping.reshape.Goals as goal

some_of : (n m : ℕ) → n ≡ m → 0 < n → 0 < m
some_of n m e some = omega arith

pub empty_view-requires-clause-limits : goal.empty_view-requires-clause-limits
empty_view-requires-clause-limits c =
    let g = c.args.view.now in
    let zs = c.args.lengths.now in
    let made : Ok c.in-Ok.shape.items ≡ shape_for c.count-count.result zs = ap (shape_given (λ v. v.items)) (sym c.in-Ok.is) ∙ c.in_ok-shape.ensures in
    let for_own : shape_for (elements_of g.shape) zs ≡ Ok c.in-Ok.shape.items = (λ i. shape_for (sym c.count-count.ensures.elements i) zs) ∙ sym made in
    let own : IsInLimits (item_size g.element) g.shape = c.shape-own.ensures.limits in
    subst (IsInLimits (item_size g.element)) (sym c.as_slice-to.ensures)
    (same_limits (item_size g.element) g.shape c.in-Ok.shape.items zs own (shape_facts (elements_of g.shape) zs c.in-Ok.shape.items for_own) c.requires.axes c.requires.limit)

pub are_met-requires-clause-each : goal.are_met-requires-clause-each
are_met-requires-clause-each c =
    let g = c.args.view.now in
    let strides = c.held_strides-strides.result.now in
    let same = axes (item_size g.element) g.shape strides (get_or g.places 0 0) (2 ^ 64) c.held_strides-strides.ensures.held in
    (same ∙ ap length (sym c.shape-own.ensures.value), ap length (c.as_slice.ensures ∙ c.in_ok-steps.ensures.value) ∙ length-steps (way_of c.shape-own.result.now strides) c.as_slice-to.result.now)

-- the new shape, and what the tests say of it
module _ (g : Geo) (strides : List ℤ) (has : HasStrides g strides) (items own to : List ℕ) (steps : List ℤ) (own_is : own ≡ g.shape) (to_is : to ≡ items) (steps_are : steps ≡ steps_for (way_of own strides) to) where
  steps_of : steps ≡ steps_for (way_of g.shape strides) items
  steps_of = steps_are ∙ (λ i. steps_for (way_of (own_is i) strides) (to_is i))

  tested : are_met (way_of to steps) own strides ≡ leads_to g.shape strides items
  tested = λ i. are_met (way_of (to_is i) (steps_of i)) (own_is i) strides

  module _ (facts : elements_of items ≡ elements_of g.shape) (some : 0 < elements_of g.shape) where
    even_is : (b : Bool) → are_met (way_of to steps) own strides ≡ b → is_even items g.places ≡ b
    even_is b e = sym (leads_is g strides has items facts some) ∙ sym tested ∙ e

outcome : (g : Geo) (zs : List ℤ) (items : List ℕ) (b : Bool) → shape_for (elements_of g.shape) zs ≡ Ok items → is_even items g.places ≡ b
    → model.reshape zs g ≡ Ok (if b then model.View (record g { shape = items }) else model.Copy items)
outcome g zs items b e even = ap (reshaped_or g) e ∙ ap (λ t. Ok (if t then model.View (record g { shape = items }) else model.Copy items)) even

pub returns-then-not-are_met : goal.returns-then-not-are_met
returns-then-not-are_met c =
    let g = c.args.view.now in
    let zs = c.args.lengths.now in
    let strides = c.held_strides-strides.result.now in
    let has : HasStrides g strides = record { held = c.held_strides-strides.ensures.held; by = c.held_strides-strides.ensures.places } in
    let items = c.in-Ok.shape.items in
    let made : Ok c.in-Ok.shape.items ≡ shape_for c.count-count.result zs = ap (shape_given (λ v. v.items)) (sym c.in-Ok.is) ∙ c.in_ok-shape.ensures in
    let for_own : shape_for (elements_of g.shape) zs ≡ Ok c.in-Ok.shape.items = (λ i. shape_for (sym c.count-count.ensures.elements i) zs) ∙ sym made in
    let facts : IsShapeFor (elements_of g.shape) zs items = shape_facts (elements_of g.shape) zs items for_own in
    let some : 0 < elements_of g.shape = some_of c.count-count.result (elements_of g.shape) c.count-count.ensures.elements (omega arith) in
    sym (outcome g zs items false for_own (even_is g strides has items c.shape-own.result.now c.as_slice-to.result.now c.as_slice.result.now c.shape-own.ensures.value c.as_slice-to.ensures
    (c.as_slice.ensures ∙ c.in_ok-steps.ensures.value) facts.elements some false (sym c.are_met.ensures ∙ c.if-not-are_met.true)))

pub from_strides-requires : goal.from_strides-requires
from_strides-requires c =
    let g = c.args.view.now in
    let zs = c.args.lengths.now in
    let strides = c.held_strides-strides.result.now in
    let has : HasStrides g strides = record { held = c.held_strides-strides.ensures.held; by = c.held_strides-strides.ensures.places } in
    let items = c.in-Ok.shape.items in
    let made : Ok c.in-Ok.shape.items ≡ shape_for c.count-count.result zs = ap (shape_given (λ v. v.items)) (sym c.in-Ok.is) ∙ c.in_ok-shape.ensures in
    let for_own : shape_for (elements_of g.shape) zs ≡ Ok c.in-Ok.shape.items = (λ i. shape_for (sym c.count-count.ensures.elements i) zs) ∙ sym made in
    let facts : IsShapeFor (elements_of g.shape) zs items = shape_facts (elements_of g.shape) zs items for_own in
    let some : 0 < elements_of g.shape = some_of c.count-count.result (elements_of g.shape) c.count-count.ensures.elements (omega arith) in
    let leads : leads_to g.shape strides items ≡ true
    = sym (tested g strides has items c.shape-own.result.now c.as_slice-to.result.now c.as_slice.result.now c.shape-own.ensures.value c.as_slice-to.ensures (c.as_slice.ensures ∙ c.in_ok-steps.ensures.value))
    ∙ sym c.are_met.ensures ∙ c.if-not-are_met.false in
    let own : IsInLimits (item_size g.element) g.shape = c.shape-own.ensures.limits in
    reshaped_fault g strides has items facts.elements some leads _ c.as_slice-to.result.now c.as_slice-2.result.now c.offset.result (c.in_ok-elem.ensures ∙ c.elem.ensures) c.as_slice-to.ensures
    (c.as_slice-2.ensures ∙ c.in_ok-steps.ensures.value ∙ (λ i. steps_for (way_of (c.shape-own.ensures.value i) strides) (c.as_slice-to.ensures i))) c.offset.ensures
    (same_limits (item_size g.element) g.shape items zs own facts c.requires.axes c.requires.limit)

pub returns : goal.returns
returns c =
    let g = c.args.view.now in
    let zs = c.args.lengths.now in
    let strides = c.held_strides-strides.result.now in
    let has : HasStrides g strides = record { held = c.held_strides-strides.ensures.held; by = c.held_strides-strides.ensures.places } in
    let items = c.in-Ok.shape.items in
    let made : Ok c.in-Ok.shape.items ≡ shape_for c.count-count.result zs = ap (shape_given (λ v. v.items)) (sym c.in-Ok.is) ∙ c.in_ok-shape.ensures in
    let for_own : shape_for (elements_of g.shape) zs ≡ Ok c.in-Ok.shape.items = (λ i. shape_for (sym c.count-count.ensures.elements i) zs) ∙ sym made in
    let facts : IsShapeFor (elements_of g.shape) zs items = shape_facts (elements_of g.shape) zs items for_own in
    let some : 0 < elements_of g.shape = some_of c.count-count.result (elements_of g.shape) c.count-count.ensures.elements (omega arith) in
    let test = tested g strides has items c.shape-own.result.now c.as_slice-to.result.now c.as_slice.result.now c.shape-own.ensures.value c.as_slice-to.ensures (c.as_slice.ensures ∙ c.in_ok-steps.ensures.value) in
    let met = sym c.are_met.ensures ∙ c.if-not-are_met.false in
    let leads : leads_to g.shape strides items ≡ true = sym test ∙ met in
    let even = even_is g strides has items c.shape-own.result.now c.as_slice-to.result.now c.as_slice.result.now c.shape-own.ensures.value c.as_slice-to.ensures
    (c.as_slice.ensures ∙ c.in_ok-steps.ensures.value) facts.elements some true met in
    let same = reshaped_is g strides has items facts.elements some leads _ c.as_slice-to.result.now c.as_slice-2.result.now c.offset.result (c.in_ok-elem.ensures ∙ c.elem.ensures) c.as_slice-to.ensures
    (c.as_slice-2.ensures ∙ c.in_ok-steps.ensures.value ∙ (λ i. steps_for (way_of (c.shape-own.ensures.value i) strides) (c.as_slice-to.ensures i))) c.offset.ensures c.writable.result c.writable.ensures in
    (λ i. Ok (model.View ((c.in_ok-reshaped.ensures ∙ same) i))) ∙ sym (outcome g zs items true for_own even)
