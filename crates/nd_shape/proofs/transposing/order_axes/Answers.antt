use Rattle.std.proofs.Common.{pos, length, get_or, ap, ◌∙◌, arith, rules}
use Rattle.std.specs.Int.{w128}
use Rattle.std.specs.Int.RustNames.{FitsSigned}
use Rattle.std.proofs.lemmas.Int.{to_z-of_z}
use Rattle.nd_model.specs.Indexing.Selecting.{counted_from, is_within}
use Rattle.nd_shape.proofs.Pushed.{pushed, all_next}
use Rattle.nd_shape.proofs.transposing.order_axes.Goals as goal

pub loop-number-preserved : goal.loop-number-preserved
loop-number-preserved c =
    let k = c.loop-number.number-index in
    let zs = c.args.order.now in
    let shape = c.args.shape.now in
    let fits : FitsSigned w128 (get_or zs k (pos 0)) = search rules in
    let strided : FitsSigned w128 (get_or c.args.strides.now c.axis_of-axis.result (pos 0)) = search rules in
    let axis = c.axis_of-axis.ensures ∙ ap (counted_from (length shape)) (to_z-of_z w128 (get_or zs k (pos 0)) fits) in
    record {
      inside = (all_next (is_within (length shape)) zs k (pos 0) (omega arith) c.loop-number.invariant.inside).1;
      lengths = pushed (λ a. get_or shape a 0) (counted_from (length shape)) zs k (pos 0) c.loop-number.layout.lengths.items c.push.new.self.lengths.items _ (omega arith) (ap (λ a. get_or shape a 0) axis)
          c.in_ok-push.ensures.lengths c.loop-number.invariant.lengths;
      strides = pushed (λ a. get_or c.args.strides.now a (pos 0)) (counted_from (length shape)) zs k (pos 0) c.loop-number.layout.strides.items c.push.new.self.strides.items _ (omega arith)
          (to_z-of_z w128 (get_or c.args.strides.now c.axis_of-axis.result (pos 0)) strided ∙ ap (λ a. get_or c.args.strides.now a (pos 0)) axis) c.in_ok-push.ensures.strides c.loop-number.invariant.strides;
    }
