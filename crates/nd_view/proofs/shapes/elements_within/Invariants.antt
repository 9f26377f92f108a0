use Rattle.std.proofs.Common.{◌≡◌, ◌*◌, ◌^◌, ◌<◌, ◌≤◌, drop}
use Rattle.nd_model.specs.Arrays.Tuple.{elements_of}
use Rattle.nd_view.proofs.shapes.elements_within.Given as goal

abbrev pub invariant-loop-length : goal.invariant-loop-length
invariant-loop-length l = record {
  product : l.count * elements_of (drop l.length-index l.shape) ≡ elements_of l.shape;
  some : 0 < elements_of (drop l.length-index l.shape);
  limit : l.count ≤ 2 ^ 24;
}
