use Rattle.std.proofs.Common.{◌≡◌, drop}
use Rattle.nd_model.specs.Arrays.Broadcast.{can_stretch}
use Rattle.nd_assign.proofs.shape.can_stretch.Given as goal

abbrev pub invariant-loop-axis : goal.invariant-loop-axis
invariant-loop-axis l = can_stretch (drop l.axis l.shape) (drop l.axis l.target) ≡ can_stretch l.shape l.target
