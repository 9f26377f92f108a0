use Rattle.std.proofs.Common.{◌≡◌, drop}
use Rattle.nd_model.specs.Arrays.Tuple.{elements_of}
use Rattle.nd_shape.specs.Reshapes.{way_of, are_met}
use Rattle.nd_shape.proofs.reshaping.are_met.Given as goal

abbrev pub invariant-loop-axis : goal.invariant-loop-axis
invariant-loop-axis l = record {
  each : l.each ≡ elements_of (drop l.axis l.shape);
  value : are_met (way_of l.to l.steps) l.shape l.strides ≡ are_met (way_of l.to l.steps) (drop l.axis l.shape) (drop l.axis l.strides);
}
