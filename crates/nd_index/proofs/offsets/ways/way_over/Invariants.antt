use Rattle.std.proofs.Common.{◌≡◌, ◌*◌, ◌^◌, ◌<◌, ◌≤◌, drop}
use Rattle.std.specs.Prelude.{◌+ℤ◌, unsigned_abs}
use Rattle.nd_model.specs.Indexing.Advanced.{unravelled}
use Rattle.nd_model.specs.Arrays.Strides.{way_to}
use Rattle.nd_model.specs.Arrays.Tuple.{elements_of}
use Rattle.nd_index.proofs.offsets.ways.way_over.Given as goal

abbrev pub invariant-loop-axis : goal.invariant-loop-axis
invariant-loop-axis l = record {
  total : l.way +ℤ way_to (unravelled (drop l.axis l.lengths) l.left) (drop l.axis l.strides) ≡ way_to (unravelled l.lengths l.number) l.strides;
  each : l.each ≡ elements_of (drop l.axis l.lengths);
  some : 0 < l.each;
  few : l.left ≤ 2 ^ 32;
  near : unsigned_abs l.way ≤ l.axis * 2 ^ 96;
}
