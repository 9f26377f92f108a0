use Rattle.std.proofs.Common.{◌≡◌, ◌+◌, drop}
use Rattle.nd_view.specs.Strides.{behind_of}
use Rattle.nd_view.proofs.parts.reach_of.Given as goal

abbrev pub invariant-loop-axis : goal.invariant-loop-axis
invariant-loop-axis l = l.all + behind_of (drop l.axis l.shape) (drop l.axis l.strides) ≡ behind_of l.shape l.strides
