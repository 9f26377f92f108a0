use Rattle.std.proofs.Common.{◌≡◌, drop, ◌++◌}
use Rattle.nd_shape.specs.Stretches.{own_strides, stretched_strides}
use Rattle.nd_shape.proofs.stretching.stretch_strides.Given as goal

abbrev pub invariant-loop-axis : goal.invariant-loop-axis
invariant-loop-axis l = l.stretched.items ++ own_strides (drop l.axis l.shape) (drop l.axis l.strides) ≡ stretched_strides l.more l.shape l.strides
