use Rattle.std.proofs.Common.{pos, get_or, ap, ◌∙◌, arith, rules}
use Rattle.std.specs.Int.{w128}
use Rattle.std.specs.Int.RustNames.{FitsSigned}
use Rattle.std.proofs.lemmas.Int.{to_z-of_z}
use Rattle.nd_shape.specs.Stretches.{own_stride}
use Rattle.nd_shape.proofs.Stretches.{own_next}
use Rattle.nd_shape.proofs.stretching.stretch_strides.Goals as goal

pub loop-axis-preserved : goal.loop-axis-preserved
loop-axis-preserved c =
    let k = c.loop-axis.axis in
    let lengths = c.args.shape.now in
    let strides = c.args.strides.now in
    let fits : FitsSigned w128 (get_or strides k (pos 0)) = search rules in
    let stretched : FitsSigned w128 c.own_stride.result = search rules in
    own_next lengths strides k c.loop-axis.stretched.items c.push.new.self.items _ _ (omega arith) (omega (arith, c.requires)) (to_z-of_z w128 c.own_stride.result stretched ∙ c.own_stride.ensures ∙ ap (own_stride (get_or lengths k 0)) (to_z-of_z w128 (get_or strides k (pos 0)) fits))
    c.in_ok-push.ensures.ok c.loop-axis.invariant
