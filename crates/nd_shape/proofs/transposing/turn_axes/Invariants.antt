use Rattle.std.proofs.Common.{◌≡◌, ◌≤◌, length, ◌++◌}
use Rattle.nd_model.specs.Indexing.Transposing.{count_down}
use Rattle.nd_shape.specs.Layouts.{lengths_on, strides_on}
use Rattle.nd_shape.proofs.transposing.turn_axes.Given as goal

abbrev pub invariant-loop-axis : goal.invariant-loop-axis
invariant-loop-axis l = record {
  within : l.axis ≤ length l.shape;
  lengths : l.layout.lengths.items ++ lengths_on l.shape (count_down l.axis) ≡ lengths_on l.shape (count_down (length l.shape));
  strides : l.layout.strides.items ++ strides_on l.strides (count_down l.axis) ≡ strides_on l.strides (count_down (length l.shape));
}

abbrev pub decreases-loop-axis : goal.decreases-loop-axis
decreases-loop-axis l = l.axis
