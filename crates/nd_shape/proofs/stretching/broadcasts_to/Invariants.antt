use Rattle.std.proofs.Common.{◌≡◌, ◌+◌, ◌-◌, length, drop}
use Rattle.nd_model.specs.Arrays.Broadcast.{can_stretch}
use Rattle.nd_shape.proofs.stretching.broadcasts_to.Given as goal

abbrev pub invariant-loop-axis : goal.invariant-loop-axis
invariant-loop-axis l =
    can_stretch l.shape (drop (length l.to - length l.shape) l.to) ≡ can_stretch (drop l.axis l.shape) (drop (length l.to - length l.shape + l.axis) l.to)
