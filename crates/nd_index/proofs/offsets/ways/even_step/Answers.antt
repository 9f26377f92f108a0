use Rattle.std.proofs.Common.{◌≡◌, ◌/◌, ◌<◌, suc, length, drop, get_or, pos, to_z, of_z, sym, ap, subst, ◌∙◌, inl, inr, arith, rules}
use Rattle.std.specs.Prelude.{ℤ, ◌*ℤ◌}
use Rattle.std.specs.Int.{w64, w128}
use Rattle.std.specs.Int.RustNames.{FitsSigned}
use Rattle.std.proofs.Math.Numerals.{add-one}
use Rattle.std.proofs.lemmas.Bool.{cases_lt}
use Rattle.std.proofs.lemmas.Int.{ints, to_z-of_z}
use Rattle.nd_model.specs.Arrays.Tuple.{elements_of}
use Rattle.nd_index.proofs.offsets.Even.{IsStep, even_by, step_first, steps_inner, step_one}
use Rattle.nd_index.proofs.offsets.Numbers.{each_next}
use Rattle.nd_index.proofs.offsets.Sums.{quotient_few}
use Rattle.nd_index.proofs.offsets.ways.even_step.Goals as goal
use Rattle.nd_index.proofs.offsets.ways.even_step.Goals.{else-axis-gt0-via-then-axis-gt0+else-length-eq1, else-axis-gt0-via-else-axis-gt0}

pub returns-then-strides-axis : goal.returns-then-strides-axis
returns-then-strides-axis c = λ has.
    let shape = c.args.lengths.now in let strides = c.args.strides.now in let k = c.loop-axis.axis in
    let lt : k < length shape = omega (arith, c.loop-axis-test.true) in
    let some : 0 < elements_of shape = omega (arith, c.requires.count, c.requires.some) in
    let next = each_next shape k c.loop-axis.each lt c.loop-axis.invariant.each c.loop-axis.invariant.some in
    let held : FitsSigned w128 c.way_of-step.result = search rules in
    let one : to_z w128 (of_z w128 c.way_of-step.result) ≡ has.0 = to_z-of_z w128 c.way_of-step.result held ∙ c.way_of-step.ensures ∙ step_one shape strides has.0 has.2 in
    let behind : c.loop-axis.each / get_or shape k 0 ≡ elements_of (drop (suc k) shape) = next.1 ∙ ap (λ m. elements_of (drop m shape)) (add-one k) in
    let value : c.scale.result ≡ pos (elements_of (drop (suc k) shape)) *ℤ has.0 = c.scale.ensures.value ∙ (λ i. pos (behind i) *ℤ one i) in
    let is : IsStep has.0 shape strides k = elim c.else-axis-gt0.branch [
      | else-axis-gt0-via-then-axis-gt0+else-length-eq1 w ↦ steps_inner shape strides has.0 c.requires.axes some has.2 k lt (omega (arith, next.0, w.if-length-eq1.false))
      | else-axis-gt0-via-else-axis-gt0 w ↦
          let zero_th : 0 ≡ k = omega (arith, w.if-axis-gt0.false) in
          subst (λ j. IsStep has.0 shape strides j) zero_th (step_first shape strides has.0 c.requires.axes some has.2 (omega (arith, lt)))
    ] in
    c.if-strides-axis.true (ap (of_z w128) (is ∙ sym value))

pub loop-axis-preserved-then-length-eq1 : goal.loop-axis-preserved-then-length-eq1
loop-axis-preserved-then-length-eq1 c =
    let shape = c.args.lengths.now in let strides = c.args.strides.now in let k = c.loop-axis.axis in
    let step : ℤ = to_z w128 (of_z w128 c.way_of-step.result) in
    let lt : k < length shape = omega (arith, c.loop-axis-test.true) in
    let next = each_next shape k c.loop-axis.each lt c.loop-axis.invariant.each c.loop-axis.invariant.some in
    record {
      each = next.1;
      some = rw next.1 next.2;
      few = omega (arith, quotient_few c.loop-axis.each (get_or shape k 0), c.loop-axis.invariant.few);
      first = λ begun. c.loop-axis.invariant.first (omega (arith, c.if-axis-gt0.true));
      inner = λ j below long. elim (cases_lt j k) [
        | inl before ↦ c.loop-axis.invariant.inner j before long
        | inr here ↦
            let same : j ≡ k = omega (arith, below, here) in
            absurd (omega (arith, c.if-length-eq1.true, subst (λ m. 1 < get_or shape m 0) same long))
      ];
    }

pub loop-axis-preserved : goal.loop-axis-preserved
loop-axis-preserved c =
    let shape = c.args.lengths.now in let strides = c.args.strides.now in let k = c.loop-axis.axis in
    let step : ℤ = to_z w128 (of_z w128 c.way_of-step.result) in
    let lt : k < length shape = omega (arith, c.loop-axis-test.true) in
    let next = each_next shape k c.loop-axis.each lt c.loop-axis.invariant.each c.loop-axis.invariant.some in
    let stride : FitsSigned w128 (get_or strides k (pos 0)) = search rules in
    let scaled : FitsSigned w128 c.scale.result = search rules in
    let behind : c.loop-axis.each / get_or shape k 0 ≡ elements_of (drop (suc k) shape) = next.1 ∙ ap (λ m. elements_of (drop m shape)) (add-one k) in
    let is : IsStep step shape strides k =
    sym (to_z-of_z w128 (get_or strides k (pos 0)) stride) ∙ ap (to_z w128) c.if-strides-axis.false ∙ to_z-of_z w128 c.scale.result scaled
    ∙ c.scale.ensures.value ∙ ap (λ m. pos m *ℤ step) behind in
    record {
      each = next.1;
      some = rw next.1 next.2;
      few = omega (arith, quotient_few c.loop-axis.each (get_or shape k 0), c.loop-axis.invariant.few);
      first = λ begun. elim (cases_lt 0 k) [
        | inl before ↦ c.loop-axis.invariant.first before
        | inr none ↦ let zero_th : k ≡ 0 = omega (arith, none) in subst (λ j. IsStep step shape strides j) zero_th is
      ];
      inner = λ j below long. elim (cases_lt j k) [
        | inl before ↦ c.loop-axis.invariant.inner j before long
        | inr here ↦ let same : k ≡ j = omega (arith, below, here) in subst (λ m. IsStep step shape strides m) same is
      ];
    }

pub returns : goal.returns
returns c =
    let shape = c.args.lengths.now in let strides = c.args.strides.now in
    let step : ℤ = to_z w128 (of_z w128 c.way_of-step.result) in
    let held : FitsSigned w128 c.way_of-step.result = search rules in
    let some : 0 < elements_of shape = omega (arith, c.requires.count, c.requires.some) in
    let is : to_z w64 (of_z w64 step) ≡ step = omega (arith, ints, c.if-unsigned_abs-gt-MOST_STEP.false, c.unsigned_abs.ensures.value) in
    let even = even_by shape strides step c.requires.axes some (to_z-of_z w128 c.way_of-step.result held ∙ c.way_of-step.ensures)
    (λ lt. c.loop-axis.invariant.first (omega (arith, lt, c.loop-axis-test.false)))
    (λ j lt long. c.loop-axis.invariant.inner j (omega (arith, lt, c.loop-axis-test.false)) long) in
    (omega (arith, ints, c.if-unsigned_abs-gt-MOST_STEP.false, c.unsigned_abs.ensures.value), λ k. even k ∙ ap (λ s. pos k *ℤ s) (sym is))
