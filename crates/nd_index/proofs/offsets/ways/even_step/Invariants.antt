use Rattle.std.proofs.Common.{◌≡◌, ℕ, ◌^◌, ◌<◌, ◌≤◌, drop, get_or}
use Rattle.nd_model.specs.Arrays.Tuple.{elements_of}
use Rattle.nd_index.proofs.offsets.Even.{IsStep}
use Rattle.nd_index.proofs.offsets.ways.even_step.Given as goal

abbrev pub invariant-loop-axis : goal.invariant-loop-axis
invariant-loop-axis l = record {
  each : l.each ≡ elements_of (drop l.axis l.lengths);
  some : 0 < l.each;
  few : l.each ≤ 2 ^ 24;
  first : 0 < l.axis → IsStep l.step l.lengths l.strides 0;
  inner : (j : ℕ) → j < l.axis → 1 < get_or l.lengths j 0 → IsStep l.step l.lengths l.strides j;
}
