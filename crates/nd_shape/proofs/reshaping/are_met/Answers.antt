use Rattle.std.proofs.Common.{◌≡◌, ◌+◌, ◌/◌, ◌<◌, ℕ, ℤ, pos, get_or, drop, sym, ap, ◌∙◌, arith, rules, to_z, of_z}
use Rattle.std.specs.Prelude.{◌&&◌}
use Rattle.std.specs.Int.{w128}
use Rattle.std.specs.Int.RustNames.{FitsSigned}
use Rattle.std.proofs.lemmas.Int.{to_z-of_z}
use Rattle.nd_shape.specs.Reshapes.{way_of, is_met, are_met}
use Rattle.nd_shape.proofs.Ways.{on_axis, met_next}
use Rattle.nd_shape.proofs.reshaping.are_met.Goals as goal

some_of : (count n : ℕ) → count ≡ n → 0 < count → 0 < n
some_of count n e some = omega arith

pub nonzero_div-each : goal.nonzero_div-each
nonzero_div-each c = (on_axis c.args.shape.now c.loop-axis.axis c.loop-axis.each (omega arith) (some_of c.args.count _ c.requires.count.0 c.requires.some.0) c.loop-axis.invariant.each).some

pub returns-then-not-is_met : goal.returns-then-not-is_met
returns-then-not-is_met c =
    let k = c.loop-axis.axis in
    let shape = c.args.shape.now in
    let ss = c.args.strides.now in
    let q : ℕ → ℤ = way_of c.args.to.now c.args.steps.now in
    let each : ℕ = c.loop-axis.each / get_or shape k 0 in
    let ax = on_axis shape k c.loop-axis.each (omega arith) (some_of c.args.count _ c.requires.count.0 c.requires.some.0) c.loop-axis.invariant.each in
    let fits : FitsSigned w128 (get_or ss k (pos 0)) = search rules in
    let stride : to_z w128 (of_z w128 (get_or ss k (pos 0))) ≡ get_or ss k (pos 0) = to_z-of_z w128 (get_or ss k (pos 0)) fits in
    let found : FitsSigned w128 c.way_of.result = search rules in
    let way : to_z w128 (of_z w128 c.way_of.result) ≡ q each = to_z-of_z w128 c.way_of.result found ∙ c.way_of.ensures.value in
    let here : is_met (get_or shape k 0) (get_or ss k (pos 0)) (q each) ≡ c.is_met.result
    = (λ i. is_met (get_or shape k 0) (sym stride i) (sym way i)) ∙ sym c.is_met.ensures in
    sym (c.loop-axis.invariant.value ∙ met_next q shape ss k each (omega arith) (omega (arith, c.requires.each.0)) ax.next
    ∙ ap (λ b. b && are_met q (drop (k + 1) shape) (drop (k + 1) ss)) (here ∙ c.if-not-is_met.true))

pub loop-axis-preserved : goal.loop-axis-preserved
loop-axis-preserved c =
    let k = c.loop-axis.axis in
    let shape = c.args.shape.now in
    let ss = c.args.strides.now in
    let q : ℕ → ℤ = way_of c.args.to.now c.args.steps.now in
    let each : ℕ = c.loop-axis.each / get_or shape k 0 in
    let ax = on_axis shape k c.loop-axis.each (omega arith) (some_of c.args.count _ c.requires.count.0 c.requires.some.0) c.loop-axis.invariant.each in
    let fits : FitsSigned w128 (get_or ss k (pos 0)) = search rules in
    let stride : to_z w128 (of_z w128 (get_or ss k (pos 0))) ≡ get_or ss k (pos 0) = to_z-of_z w128 (get_or ss k (pos 0)) fits in
    let found : FitsSigned w128 c.way_of.result = search rules in
    let way : to_z w128 (of_z w128 c.way_of.result) ≡ q each = to_z-of_z w128 c.way_of.result found ∙ c.way_of.ensures.value in
    let here : is_met (get_or shape k 0) (get_or ss k (pos 0)) (q each) ≡ c.is_met.result
    = (λ i. is_met (get_or shape k 0) (sym stride i) (sym way i)) ∙ sym c.is_met.ensures in
    record {
      each = ax.next;
      value = c.loop-axis.invariant.value ∙ met_next q shape ss k each (omega arith) (omega (arith, c.requires.each.0)) ax.next
          ∙ ap (λ b. b && are_met q (drop (k + 1) shape) (drop (k + 1) ss)) (here ∙ c.if-not-is_met.false);
    }
