use Rattle.std.proofs.Common.{◌≡◌, ◌*◌, ◌^◌, ◌<◌, ◌≤◌, drop}
use Rattle.std.specs.Prelude.{◌+ℤ◌, unsigned_abs}
use Rattle.std.specs.List.{All}
use Rattle.nd_model.specs.Arrays.Tuple.{elements_of}
use Rattle.nd_shape.specs.Reshapes.{way_of}
use Rattle.nd_shape.proofs.reshaping.way_of.Given as goal

abbrev pub invariant-loop-axis : goal.invariant-loop-axis
invariant-loop-axis l = record {
  each : l.each ≡ elements_of (drop l.axis l.shape);
  value : l.way +ℤ way_of (drop l.axis l.shape) (drop l.axis l.strides) l.number ≡ way_of l.shape l.strides l.number;
  range : unsigned_abs l.way ≤ l.axis * 2 ^ 117;
  near : All (λ s. unsigned_abs s < 2 ^ 64) l.strides → unsigned_abs l.way ≤ l.axis * 2 ^ 88;
}
