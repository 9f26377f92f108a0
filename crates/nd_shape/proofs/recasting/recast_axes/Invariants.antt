use Rattle.std.proofs.Common.{◌≡◌, take}
use Rattle.nd_shape.proofs.recasting.recast_axes.Given as goal

abbrev pub invariant-loop-axis : goal.invariant-loop-axis
invariant-loop-axis l = record {
  lengths : l.layout.lengths.items ≡ take l.axis l.shape;
  strides : l.layout.strides.items ≡ take l.axis l.strides;
}
