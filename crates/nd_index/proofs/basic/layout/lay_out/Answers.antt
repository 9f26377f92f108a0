use Rattle.std.proofs.Common.{◌<◌, length, get_or, to_z, of_z, sym, ap, ◌∙◌, arith, rules}
use Rattle.std.specs.Int.{w128}
use Rattle.std.specs.Int.RustNames.{FitsSigned}
use Rattle.std.proofs.lemmas.Int.{to_z-of_z}
use Rattle.nd_model.specs.Indexing.Selecting.{has_zero_step, whole_slice}
use Rattle.nd_index.specs.Basic.FullIndexes.{items_in}
use Rattle.nd_index.specs.Basic.Items.{item_of}
use Rattle.nd_index.proofs.basic.Steps.{inside_of, outside_next, step_next, axes_laid, inside_laid, lengths_laid, strides_laid, way_laid}
use Rattle.nd_index.proofs.basic.layout.lay_out.Goals as goal

pub add-requires-clause-step : goal.add-requires-clause-step
add-requires-clause-step c =
    let fs = items_in c.args.index.now in let k = c.loop-number.number in
    let lt : k < length fs = omega (arith, c.loop-number-test.true, c.len-number-end.ensures) in
    ap has_zero_step c.item-item.ensures ∙ (step_next fs c.args.shape.now k c.loop-number.axis lt c.loop-number.invariant.steps).0

pub add-requires-clause-inside : goal.add-requires-clause-inside
add-requires-clause-inside c =
    let fs = items_in c.args.index.now in let k = c.loop-number.number in let axis = c.loop-number.axis in let shape = c.args.shape.now in
    let lt : k < length fs = omega (arith, c.loop-number-test.true, c.len-number-end.ensures) in
    let inside = inside_of axis (get_or shape axis 0) (get_or fs k whole_slice) _ (sym (outside_next fs shape k axis lt) ∙ c.loop-number.invariant.inside) in
    rw (c.length_of.ensures, c.item-item.ensures) inside.0

pub add-requires-clause-offset : goal.add-requires-clause-offset
add-requires-clause-offset c = omega (arith, c.loop-number.invariant.near, c.loop-number.invariant.axes, c.requires.most)

pub loop-number-preserved : goal.loop-number-preserved
loop-number-preserved c =
    let fs = items_in c.args.index.now in
    let lt : c.loop-number.number < length fs = omega (arith, c.loop-number-test.true, c.len-number-end.ensures) in
    let i = item_of c.item-item.result in
    let n = c.length_of.result in
    let k = c.axes_of-axis.result in
    let fits : FitsSigned w128 c.stride_of.result = search rules in
    let stride = to_z-of_z w128 c.stride_of.result fits ∙ c.stride_of.ensures in
    record {
      lengths = lengths_laid fs c.args.shape.now c.loop-number.number c.loop-number.axis lt i n k c.item-item.ensures c.length_of.ensures c.axes_of-axis.ensures.value
          c.loop-number.layout.lengths.items c.add.new.self.lengths.items _ c.in_ok-add.ensures.lengths c.loop-number.invariant.lengths;
      strides = strides_laid fs c.args.shape.now c.loop-number.number c.loop-number.axis lt i n k c.item-item.ensures c.length_of.ensures c.axes_of-axis.ensures.value
          c.args.strides.now (to_z w128 (of_z w128 c.stride_of.result)) stride c.loop-number.layout.strides.items c.add.new.self.strides.items _ c.in_ok-add.ensures.strides c.loop-number.invariant.strides;
      way = way_laid fs c.args.shape.now c.loop-number.number c.loop-number.axis lt i n k c.item-item.ensures c.length_of.ensures c.axes_of-axis.ensures.value
          c.args.strides.now (to_z w128 (of_z w128 c.stride_of.result)) stride c.loop-number.layout.offset c.add.new.self.offset _ c.in_ok-add.ensures.offset c.loop-number.invariant.way;
      axes = axes_laid fs c.args.shape.now c.loop-number.number c.loop-number.axis lt i n k c.item-item.ensures c.length_of.ensures c.axes_of-axis.ensures.value _ c.loop-number.invariant.axes;
      steps = (step_next fs c.args.shape.now c.loop-number.number c.loop-number.axis lt c.loop-number.invariant.steps).1;
      inside = inside_laid fs c.args.shape.now c.loop-number.number c.loop-number.axis lt i n k c.item-item.ensures c.length_of.ensures c.axes_of-axis.ensures.value c.loop-number.invariant.inside;
      near = omega (arith, c.in_ok-add.ensures.near, c.loop-number.invariant.near, c.axes_of-axis.ensures.value);
    }
