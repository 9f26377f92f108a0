use Rattle.std.proofs.Common.{◌≡◌, ◌+◌, ◌/◌, ◌%◌, ◌^◌, ◌<◌, ℕ, ℤ, pos, drop, get_or, refl, ap, ◌∙◌, arith, rules, to_z, of_z}
use Rattle.std.specs.Prelude.{◌+ℤ◌, ◌*ℤ◌, unsigned_abs}
use Rattle.std.specs.Int.{w128}
use Rattle.std.specs.Int.RustNames.{FitsSigned}
use Rattle.std.proofs.Math.Nat.{mod-lt}
use Rattle.std.proofs.lemmas.Int.{to_z-of_z}
use Rattle.nd_shape.specs.Reshapes.{way_of}
use Rattle.nd_shape.proofs.Ways.{on_axis, way_next}
use Rattle.nd_shape.proofs.reshaping.way_of.Goals as goal

some_of : (count n : ℕ) → count ≡ n → 0 < count → 0 < n
some_of count n e some = omega arith

pub nonzero_div-each : goal.nonzero_div-each
nonzero_div-each c = (on_axis c.args.shape.now c.loop-axis.axis c.loop-axis.each (omega arith) (some_of c.args.count _ c.requires.count c.requires.some.0) c.loop-axis.invariant.each).some

pub nonzero_div-number : goal.nonzero_div-number
nonzero_div-number c = (on_axis c.args.shape.now c.loop-axis.axis c.loop-axis.each (omega arith) (some_of c.args.count _ c.requires.count c.requires.some.0) c.loop-axis.invariant.each).many

pub nonzero_rem-number : goal.nonzero_rem-number
nonzero_rem-number c = (on_axis c.args.shape.now c.loop-axis.axis c.loop-axis.each (omega arith) (some_of c.args.count _ c.requires.count c.requires.some.0) c.loop-axis.invariant.each).some

pub go_on-way-requires-clause-by : goal.go_on-way-requires-clause-by
go_on-way-requires-clause-by c =
    let ax = on_axis c.args.shape.now c.loop-axis.axis c.loop-axis.each (omega arith) (some_of c.args.count _ c.requires.count c.requires.some.0) c.loop-axis.invariant.each in
    omega (arith, mod-lt (c.args.number / (c.loop-axis.each / get_or c.args.shape.now c.loop-axis.axis 0)) ax.some, ax.below, c.requires.count, c.requires.some.1)

pub loop-axis-preserved : goal.loop-axis-preserved
loop-axis-preserved c =
    let k = c.loop-axis.axis in
    let shape = c.args.shape.now in
    let ss = c.args.strides.now in
    let ax = on_axis shape k c.loop-axis.each (omega arith) (some_of c.args.count _ c.requires.count c.requires.some.0) c.loop-axis.invariant.each in
    let fits : FitsSigned w128 (get_or ss k (pos 0)) = search rules in
    let stride = to_z-of_z w128 (get_or ss k (pos 0)) fits in
    let made : FitsSigned w128 c.go_on-way.result = search rules in
    let own = to_z-of_z w128 c.go_on-way.result made in
    let size : unsigned_abs (to_z w128 (of_z w128 c.go_on-way.result)) ≡ unsigned_abs c.go_on-way.result = ap unsigned_abs own in
    let way : ℤ = to_z w128 c.loop-axis.way-bits in
    let by : ℕ = c.args.number / (c.loop-axis.each / get_or shape k 0) % get_or shape k 0 in
    let further : to_z w128 (of_z w128 c.go_on-way.result) ≡ way +ℤ (pos by *ℤ get_or ss k (pos 0)) = own ∙ c.go_on-way.ensures.value ∙ (λ i. way +ℤ (pos by *ℤ stride i)) in
    record {
      each = ax.next;
      value = (λ i. further i +ℤ way_of (drop (k + 1) shape) (drop (k + 1) ss) c.args.number)
          ∙ way_next shape ss k (c.loop-axis.each / get_or shape k 0) c.args.number way (pos by *ℤ get_or ss k (pos 0)) _ (omega arith) (omega (arith, c.requires.each)) ax.next refl c.loop-axis.invariant.value;
      range = omega (arith, size, c.go_on-way.ensures.range, c.loop-axis.invariant.range);
      near = λ all.
          let small : unsigned_abs (to_z w128 (of_z w128 (get_or ss k (pos 0)))) < 2 ^ 64 = omega (arith, ap unsigned_abs stride, all k (pos 0) (omega (arith, c.requires.each))) in
          omega (arith, size, c.go_on-way.ensures.near small, c.loop-axis.invariant.near all);
    }
