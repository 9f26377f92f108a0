use Rattle.std.proofs.Common.{◌≡◌, ◌-◌, ◌≤◌, length, drop}
use Rattle.nd_model.specs.Making.Assigning.{without_ones}
use Rattle.nd_assign.proofs.shape.count_ones.Given as goal

abbrev pub invariant-loop-axis : goal.invariant-loop-axis
invariant-loop-axis l = record {
  inside : l.axis ≤ length l.shape;
  few : l.axis ≤ l.most;
  rest : without_ones (l.most - l.axis) (drop l.axis l.shape) ≡ without_ones l.most l.shape;
}

abbrev pub decreases-loop-axis : goal.decreases-loop-axis
decreases-loop-axis l = l.most - l.axis
