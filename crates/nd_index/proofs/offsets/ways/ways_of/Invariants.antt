use Rattle.std.proofs.Common.{◌≡◌, ◌≤◌, drop, length}
use Rattle.nd_index.specs.Offsets.Ways.{ways}
use Rattle.nd_index.proofs.offsets.ways.ways_of.Given as goal

abbrev pub invariant-loop-axis : goal.invariant-loop-axis
invariant-loop-axis l = record {
  done : l.ways.items ≡ ways (drop l.axis l.lengths) (drop l.axis l.strides);
  within : l.axis ≤ length l.lengths;
}

abbrev pub decreases-loop-axis : goal.decreases-loop-axis
decreases-loop-axis l = l.axis
