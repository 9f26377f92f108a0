use Rattle.std.proofs.Common.{◌≡◌, ◌≤◌, length, drop}
use Rattle.nd_model.specs.Arrays.Tuple.{elements_of}
use Rattle.nd_ufunc.proofs.elementwise.spread.row_axes.Given as goal

abbrev pub invariant-loop-axes : goal.invariant-loop-axes
invariant-loop-axes l = record {
  within : l.axes ≤ length l.shape;
  ones : elements_of (drop l.axes l.shape) ≡ 1;
}

abbrev pub decreases-loop-axes : goal.decreases-loop-axes
decreases-loop-axes l = l.axes
