use Rattle.std.proofs.Common.{◌≡◌, ◌+◌, ◌/◌, ◌%◌, ◌<◌, length, drop, get_or, ap, ◌∙◌, arith, rules, to_z, of_z}
use Rattle.std.specs.Int.{w128}
use Rattle.std.specs.Int.RustNames.{FitsSigned}
use Rattle.std.specs.Prelude.{pos, ◌+ℤ◌, ◌*ℤ◌}
use Rattle.std.proofs.lemmas.Int.{ints, fits_signed_from_abs, to_z-of_z}
use Rattle.nd_model.specs.Indexing.Advanced.{unravelled}
use Rattle.nd_model.specs.Arrays.Strides.{way_to}
use Rattle.nd_model.specs.Arrays.Tuple.{elements_of}
use Rattle.nd_index.proofs.offsets.Numbers.{each_next, way_next, way_onward}
use Rattle.nd_index.proofs.offsets.Sums.{quotient_few, rest_few}
use Rattle.nd_index.proofs.offsets.ways.way_over.Goals as goal

pub scale-way-requires-clause-by : goal.scale-way-requires-clause-by
scale-way-requires-clause-by c = omega (arith, quotient_few c.loop-axis.left (c.loop-axis.each / get_or c.args.lengths.now c.loop-axis.axis 0), c.loop-axis.invariant.few)

pub scale-way-requires-clause-stride : goal.scale-way-requires-clause-stride
scale-way-requires-clause-stride c =
    let strides = c.args.strides.now in let k = c.loop-axis.axis in
    let fits : FitsSigned w128 (get_or strides k (pos 0)) = search rules in
    rw (to_z-of_z w128 (get_or strides k (pos 0)) fits) (c.requires.range k (pos 0) (omega (arith, c.loop-axis-test.true, c.requires.axes)))

pub overflow_add-way : goal.overflow_add-way
overflow_add-way c = fits_signed_from_abs w128 _ (omega (arith, ints, c.scale-way.ensures.limit, c.loop-axis.invariant.near, c.loop-axis-test.true, c.requires.most))

pub loop-axis-preserved : goal.loop-axis-preserved
loop-axis-preserved c =
    let k = c.loop-axis.axis in let lengths = c.args.lengths.now in let strides = c.args.strides.now in let left = c.loop-axis.left in
    let way = to_z w128 c.loop-axis.way-bits in
    let lt : k < length lengths = omega (arith, c.loop-axis-test.true) in
    let lt' : k < length strides = omega (arith, lt, c.requires.axes) in
    let r = elements_of (drop (k + 1) lengths) in
    let next = each_next lengths k c.loop-axis.each lt c.loop-axis.invariant.each c.loop-axis.invariant.some in
    let fits : FitsSigned w128 (get_or strides k (pos 0)) = search rules in
    let step : c.scale-way.result ≡ pos (left / r) *ℤ get_or strides k (pos 0)
    = c.scale-way.ensures.value ∙ (λ i. pos (left / next.1 i) *ℤ to_z-of_z w128 (get_or strides k (pos 0)) fits i) in
    let sum : to_z w128 (of_z w128 (to_z w128 c.loop-axis.way-bits +ℤ to_z w128 (of_z w128 c.scale-way.result))) ≡ way +ℤ c.scale-way.result
    = omega (arith, ints, c.scale-way.ensures.limit, c.loop-axis.invariant.near, c.requires.most) in
    record {
      total = (λ i. sum i +ℤ way_to (unravelled (drop (k + 1) lengths) (left % next.1 i)) (drop (k + 1) strides))
          ∙ ap (λ z. (way +ℤ z) +ℤ way_to (unravelled (drop (k + 1) lengths) (left % r)) (drop (k + 1) strides)) step
          ∙ way_onward way (pos (left / r) *ℤ get_or strides k (pos 0)) _ _ _ (way_next lengths strides k left lt lt') c.loop-axis.invariant.total;
      each = next.1;
      some = rw next.1 next.2;
      few = omega (arith, rest_few left (c.loop-axis.each / get_or lengths k 0), c.loop-axis.invariant.few);
      near = omega (arith, ints, c.scale-way.ensures.limit, c.loop-axis.invariant.near, c.requires.most);
    }
