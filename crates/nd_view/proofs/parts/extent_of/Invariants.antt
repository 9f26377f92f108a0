use Rattle.std.proofs.Common.{◌≡◌, ◌+◌, ◌*◌, ◌^◌, ◌≤◌, drop}
use Rattle.nd_view.specs.Strides.{before_of, behind_of}
use Rattle.nd_view.proofs.parts.extent_of.Given as goal

abbrev pub invariant-loop-axis : goal.invariant-loop-axis
invariant-loop-axis l = record {
  before : l.extent.before + before_of (drop l.axis l.shape) (drop l.axis l.strides) ≡ before_of l.shape l.strides;
  behind : l.extent.behind + behind_of (drop l.axis l.shape) (drop l.axis l.strides) ≡ behind_of l.shape l.strides;
  limit : l.extent.before + l.extent.behind ≤ l.axis * 2 ^ 87;
}
