use Rattle.std.proofs.Common.{◌≡◌, ◌+◌, ◌-◌, ◌*◌, ◌<◌, length, take, drop, pos, to_z, of_z, sym, subst, ap, ◌∙◌, arith, length-drop, take_all}
use Rattle.std.specs.Prelude.{◌+ℤ◌, ◌*ℤ◌}
use Rattle.std.specs.Int.{w64}
use Rattle.std.proofs.lemmas.Int.{ints}
use Rattle.nd_model.specs.Indexing.Advanced.{unravelled}
use Rattle.nd_model.specs.Arrays.Strides.{way_to}
use Rattle.nd_model.specs.Arrays.Tuple.{elements_of}
use Rattle.nd_index.specs.Offsets.RowPlaces.{way_on}
use Rattle.nd_index.proofs.offsets.Blocks.{both, split_way}
use Rattle.nd_index.proofs.offsets.Numbers.{each_next}
use Rattle.nd_index.proofs.offsets.axes.Axes.even_block.Goals as goal

pub returns-in-Some : goal.returns-in-Some
returns-in-Some c = λ q r lt.
    let axes = c.args.self.now in let step = c.in-Some.step in
    let even = axes.even step c.in-Some.is in
    let held : step ≡ to_z w64 (of_z w64 step) = omega (arith, ints, even.0) in
    even.1 (q * axes.count + r) ∙ both (q * axes.count) r step ∙ (λ i. sym (even.1 (q * axes.count)) i +ℤ (pos r *ℤ held i))

pub returns-in-Some-step : goal.returns-in-Some-step
returns-in-Some-step c = λ q r lt.
    let axes = c.args.self.now in let shape = axes.lengths.now in let strides = axes.strides.now in let k = c.loop-axis.axis in
    let below : k < length shape = omega (arith, c.loop-axis-test.true) in
    let next = each_next shape k c.loop-axis.count below c.loop-axis.invariant.count c.loop-axis.invariant.some in
    let even = c.in-Some-step.ensures in
    let all : 0 < elements_of shape = omega (arith, axes.all, axes.some) in
    let step : to_z w64 (of_z w64 c.in-Some-step.step) ≡ c.in-Some-step.step = omega (arith, ints, even.0) in
    let lengths : take (length shape - (k + 1)) (drop (k + 1) shape) ≡ drop (k + 1) shape = take_all (length shape - (k + 1)) (drop (k + 1) shape) (omega (arith, length-drop (k + 1) shape)) in
    let steps : take (length strides - (k + 1)) (drop (k + 1) strides) ≡ drop (k + 1) strides = take_all (length strides - (k + 1)) (drop (k + 1) strides) (omega (arith, length-drop (k + 1) strides)) in
    let behind : way_to (unravelled (drop (k + 1) shape) r) (drop (k + 1) strides) ≡ pos r *ℤ to_z w64 (of_z w64 c.in-Some-step.step) =
    (λ i. way_to (unravelled (sym lengths i) r) (sym steps i)) ∙ even.1 r ∙ ap (λ s. pos r *ℤ s) (sym step) in
    (λ i. way_on axes (q * next.1 i + r))
    ∙ split_way (k + 1) shape strides q r (axes.each) all (subst (λ m. r < m) next.1 lt)
    ∙ (λ i. way_on axes (q * sym next.1 i) +ℤ behind i)
