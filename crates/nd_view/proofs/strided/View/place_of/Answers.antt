use Rattle.std.proofs.Common.{rules, ◌≡◌, ◌/◌, ◌<◌, length, get_or, refl, sym, ap, ◌∙◌, arith}
use Rattle.std.specs.Prelude.{pos, ◌+ℤ◌, ◌*ℤ◌}
use Rattle.std.specs.Int.{w128}
use Rattle.std.specs.Int.RustNames.{FitsSigned}
use Rattle.std.proofs.lemmas.Int.{to_z-of_z, ints}
use Rattle.nd_model.specs.Arrays.Strides.{place_at}
use Rattle.nd_model.specs.Arrays.Tuple.{elements_of}
use Rattle.nd_model.specs.Arrays.View.{item_size}
use Rattle.nd_types.specs.Types.{type_of}
use Rattle.nd_view.proofs.Fields.{count_of, number_at, ends, lies_of}
use Rattle.nd_view.proofs.Numbered.{tuple_of}
use Rattle.nd_view.proofs.Unravelled.{length_some, each_some, way, to_below, go, onwards, arrived}
use Rattle.nd_view.proofs.strided.View.place_of.Goals as goal

pub loop-axis-init : goal.loop-axis-init
loop-axis-init c =
    let each : c.element_count-each.result ≡ elements_of c.self.inside.shape.items = c.element_count-each.ensures ∙ ap elements_of c.as_slice.ensures in
    let below : c.args.number < elements_of c.self.inside.shape.items = omega (arith, c.requires, count_of c.self.inside c.self.invariant c.args.self.now c.self.view_is) in
    let lies = lies_of c.self.inside c.self.invariant c.args.self.now c.self.view_is in
    let size : item_size c.args.self.now.element ≡ item_size (type_of c.self.inside.elem) = sym (λ i. item_size (c.self.view_is i).element) in
    rw (size, each, c.as_slice-length-items.ensures, c.as_slice-strides.ensures) (record { many = refl; below = below; lies = lies; same = refl })

pub nonzero_div-each : goal.nonzero_div-each
nonzero_div-each c = length_some (item_size c.args.self.now.element) c.as_slice-length-items.result.now c.as_slice-strides.result.now c.loop-axis.axis c.loop-axis.each c.loop-axis.left c.loop-axis.place _ c.loop-axis.invariant
    (rw (← c.self.view_is) c.self.invariant.some) c.loop-axis-test.true (ap length c.as_slice-strides.ensures ∙ c.self.invariant.axes ∙ sym (ap length c.as_slice-length-items.ensures))

pub nonzero_div-left : goal.nonzero_div-left
nonzero_div-left c = each_some (item_size c.args.self.now.element) c.as_slice-length-items.result.now c.as_slice-strides.result.now c.loop-axis.axis c.loop-axis.each c.loop-axis.left c.loop-axis.place _ c.loop-axis.invariant
    (rw (← c.self.view_is) c.self.invariant.some) c.loop-axis-test.true (ap length c.as_slice-strides.ensures ∙ c.self.invariant.axes ∙ sym (ap length c.as_slice-length-items.ensures))

pub shift_place-place-requires-clause-low : goal.shift_place-place-requires-clause-low
shift_place-place-requires-clause-low c =
    let fits : FitsSigned w128 (get_or c.as_slice-strides.result.now c.loop-axis.axis (pos 0)) = search rules in
    rw (
      to_z-of_z w128 _ fits,
      way (item_size c.args.self.now.element) c.as_slice-length-items.result.now c.as_slice-strides.result.now c.loop-axis.axis c.loop-axis.each c.loop-axis.left c.loop-axis.place _ c.loop-axis.invariant
          (rw (← c.self.view_is) c.self.invariant.some) c.loop-axis-test.true (ap length c.as_slice-strides.ensures ∙ c.self.invariant.axes ∙ sym (ap length c.as_slice-length-items.ensures)),
    ) (omega (arith, ints))

pub shift_place-place-requires-clause-high : goal.shift_place-place-requires-clause-high
shift_place-place-requires-clause-high c =
    let fits : FitsSigned w128 (get_or c.as_slice-strides.result.now c.loop-axis.axis (pos 0)) = search rules in
    let below = to_below (item_size c.args.self.now.element) c.as_slice-length-items.result.now c.as_slice-strides.result.now c.loop-axis.axis c.loop-axis.each c.loop-axis.left c.loop-axis.place _ c.loop-axis.invariant
    (rw (← c.self.view_is) c.self.invariant.some) c.loop-axis-test.true (ap length c.as_slice-strides.ensures ∙ c.self.invariant.axes ∙ sym (ap length c.as_slice-length-items.ensures)) in
    rw (
      to_z-of_z w128 _ fits,
      way (item_size c.args.self.now.element) c.as_slice-length-items.result.now c.as_slice-strides.result.now c.loop-axis.axis c.loop-axis.each c.loop-axis.left c.loop-axis.place _ c.loop-axis.invariant
          (rw (← c.self.view_is) c.self.invariant.some) c.loop-axis-test.true (ap length c.as_slice-strides.ensures ∙ c.self.invariant.axes ∙ sym (ap length c.as_slice-length-items.ensures)),
    ) (omega (arith, ints, below))

pub nonzero_rem-left : goal.nonzero_rem-left
nonzero_rem-left c = each_some (item_size c.args.self.now.element) c.as_slice-length-items.result.now c.as_slice-strides.result.now c.loop-axis.axis c.loop-axis.each c.loop-axis.left c.loop-axis.place _ c.loop-axis.invariant
    (rw (← c.self.view_is) c.self.invariant.some) c.loop-axis-test.true (ap length c.as_slice-strides.ensures ∙ c.self.invariant.axes ∙ sym (ap length c.as_slice-length-items.ensures))

pub loop-axis-preserved : goal.loop-axis-preserved
loop-axis-preserved c =
    let fits : FitsSigned w128 (get_or c.as_slice-strides.result.now c.loop-axis.axis (pos 0)) = search rules in
    let next = go (item_size c.args.self.now.element) c.as_slice-length-items.result.now c.as_slice-strides.result.now c.loop-axis.axis c.loop-axis.each c.loop-axis.left c.loop-axis.place _ c.loop-axis.invariant
    (rw (← c.self.view_is) c.self.invariant.some) c.loop-axis-test.true (ap length c.as_slice-strides.ensures ∙ c.self.invariant.axes ∙ sym (ap length c.as_slice-length-items.ensures)) in
    let here : pos c.shift_place-place.result ≡ pos next.to
    = c.shift_place-place.ensures
    ∙ ap (λ z. pos c.loop-axis.place +ℤ (pos (c.loop-axis.left / (c.loop-axis.each / get_or c.as_slice-length-items.result.now c.loop-axis.axis 0)) *ℤ z)) (to_z-of_z w128 _ fits)
    ∙ way (item_size c.args.self.now.element) c.as_slice-length-items.result.now c.as_slice-strides.result.now c.loop-axis.axis c.loop-axis.each c.loop-axis.left c.loop-axis.place _ c.loop-axis.invariant
    (rw (← c.self.view_is) c.self.invariant.some) c.loop-axis-test.true (ap length c.as_slice-strides.ensures ∙ c.self.invariant.axes ∙ sym (ap length c.as_slice-length-items.ensures)) in
    let to : c.shift_place-place.result ≡ next.to = cc in
    rw to (onwards (item_size c.args.self.now.element) c.as_slice-length-items.result.now c.as_slice-strides.result.now c.loop-axis.axis c.loop-axis.each c.loop-axis.left c.loop-axis.place _ c.loop-axis.invariant
    (rw (← c.self.view_is) c.self.invariant.some) c.loop-axis-test.true (ap length c.as_slice-strides.ensures ∙ c.self.invariant.axes ∙ sym (ap length c.as_slice-length-items.ensures)))

-- the walk is at its end
abbrev whole : (c : goal.After-loop-axis) → c.loop-axis.place ≡ get_or c.args.self.now.places c.args.number 0
whole c =
    let below : c.args.number < elements_of c.self.inside.shape.items = omega (arith, c.requires, count_of c.self.inside c.self.invariant c.args.self.now c.self.view_is) in
    arrived (item_size c.args.self.now.element) c.as_slice-length-items.result.now c.as_slice-strides.result.now c.loop-axis.axis c.loop-axis.each c.loop-axis.left c.loop-axis.place _ c.loop-axis.invariant (omega (arith, c.loop-axis-test.false))
    ∙ (λ i. place_at c.self.inside.offset (c.as_slice-strides.ensures i) (tuple_of (c.as_slice-length-items.ensures i) c.args.number))
    ∙ number_at c.self.inside c.self.invariant c.args.self.now c.self.view_is c.args.number below

pub returns-clause-value : goal.returns-clause-value
returns-clause-value c = whole c

pub returns-clause-limit : goal.returns-clause-limit
returns-clause-limit c = omega (arith, whole c, ends c.self.inside c.self.invariant c.args.self.now c.self.view_is c.args.number c.requires)
