use Rattle.std.proofs.Common.{◌≡◌, ◌^◌, ◌≤◌, ◌++◌, drop}
use Rattle.std.specs.Prelude.{unsigned_abs}
use Rattle.std.specs.List.{All}
use Rattle.nd_model.specs.Arrays.Tuple.{elements_of}
use Rattle.nd_shape.specs.Reshapes.{way_of, steps_for}
use Rattle.nd_shape.proofs.reshaping.steps_for.Given as goal

abbrev pub invariant-loop-length : goal.invariant-loop-length
invariant-loop-length l = record {
  each : l.each ≡ elements_of (drop l.length-index l.to);
  value : l.steps.items ++ steps_for (way_of l.shape l.strides) (drop l.length-index l.to) ≡ steps_for (way_of l.shape l.strides) l.to;
  range : All (λ s. unsigned_abs s ≤ 2 ^ 93) l.steps.items;
}
