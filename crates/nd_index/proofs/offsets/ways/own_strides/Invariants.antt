use Rattle.std.proofs.Common.{◌≡◌, ◌<◌, ◌++◌, drop}
use Rattle.nd_model.specs.Arrays.Tuple.{elements_of}
use Rattle.nd_index.specs.Offsets.Ways.{narrowed_strides, own_strides}
use Rattle.nd_index.proofs.offsets.ways.own_strides.Given as goal

abbrev pub invariant-loop-length : goal.invariant-loop-length
invariant-loop-length l = record {
  done : l.strides.items ++ narrowed_strides (drop l.length-index l.shape) ≡ own_strides l.axes l.shape;
  each : l.each ≡ elements_of (drop l.length-index l.shape);
  some : 0 < l.each;
}
