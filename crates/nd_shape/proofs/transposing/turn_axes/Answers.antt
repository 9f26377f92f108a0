use Rattle.std.proofs.Common.{◌-◌, pos, get_or, refl, arith, rules}
use Rattle.std.specs.Int.{w128}
use Rattle.std.specs.Int.RustNames.{FitsSigned}
use Rattle.std.proofs.lemmas.Int.{to_z-of_z}
use Rattle.nd_shape.proofs.Pushed.{pushed_down}
use Rattle.nd_shape.proofs.transposing.turn_axes.Goals as goal

pub loop-axis-preserved : goal.loop-axis-preserved
loop-axis-preserved c =
    let a = c.loop-axis.axis in
    let fits : FitsSigned w128 (get_or c.args.strides.now (a - 1) (pos 0)) = search rules in
    record {
      within = omega arith;
      lengths = pushed_down (λ a. get_or c.args.shape.now a 0) a _ c.loop-axis.layout.lengths.items c.push.new.self.lengths.items _ (omega arith) refl c.in_ok-push.ensures.lengths c.loop-axis.invariant.lengths;
      strides = pushed_down (λ a. get_or c.args.strides.now a (pos 0)) a _ c.loop-axis.layout.strides.items c.push.new.self.strides.items _ (omega arith)
          (to_z-of_z w128 (get_or c.args.strides.now (a - 1) (pos 0)) fits) c.in_ok-push.ensures.strides c.loop-axis.invariant.strides;
    }
