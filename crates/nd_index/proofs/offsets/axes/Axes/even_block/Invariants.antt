use Rattle.std.proofs.Common.{◌≡◌, ◌^◌, ◌<◌, ◌≤◌, drop}
use Rattle.nd_model.specs.Arrays.Tuple.{elements_of}
use Rattle.nd_index.proofs.offsets.axes.Axes.even_block.Given as goal

abbrev pub invariant-loop-axis : goal.invariant-loop-axis
invariant-loop-axis l = record {
  count : l.count ≡ elements_of (drop l.axis l.self.lengths.now);
  some : 0 < l.count;
  few : l.count ≤ 2 ^ 24;
}
