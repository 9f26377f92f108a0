use Rattle.std.proofs.Common.{◌≡◌, ℕ, pos, ◌-◌, ◌<◌, ◌≤◌, length, drop, get_or}
use Rattle.nd_model.specs.Arrays.Tuple.{elements_of}
use Rattle.nd_ufunc.proofs.loops.cycle.period_of.Given as goal

abbrev pub invariant-loop-axis : goal.invariant-loop-axis
invariant-loop-axis l = record {
  within : l.axis ≤ length l.shape;
  still : (i : ℕ) → i < l.axis → get_or l.strides i (pos 0) ≡ pos 0;
  period : l.period ≡ elements_of (drop l.axis l.shape);
  some : 0 < l.period;
}

abbrev pub decreases-loop-axis : goal.decreases-loop-axis
decreases-loop-axis l = length l.shape - l.axis
