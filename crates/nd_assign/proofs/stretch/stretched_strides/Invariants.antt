use Rattle.std.proofs.Common.{◌≡◌, ◌++◌, drop, replicate, pos}
use Rattle.nd_assign.specs.Stretched.{narrowed_strides}
use Rattle.nd_assign.proofs.stretch.stretched_strides.Given as goal

abbrev pub invariant-loop-axis : goal.invariant-loop-axis
invariant-loop-axis l = l.all.items ++ narrowed_strides (drop l.axis l.shape) (drop l.axis l.strides) ≡ replicate l.more (pos 0) ++ narrowed_strides l.shape l.strides
