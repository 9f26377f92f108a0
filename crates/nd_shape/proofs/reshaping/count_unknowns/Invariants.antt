use Rattle.std.proofs.Common.{◌≡◌, ◌+◌, ◌≤◌, drop}
use Rattle.nd_model.specs.Indexing.Reshaping.{unknowns}
use Rattle.nd_shape.proofs.reshaping.count_unknowns.Given as goal

abbrev pub invariant-loop-length : goal.invariant-loop-length
invariant-loop-length l = record {
  value : l.count + unknowns (drop l.length-index l.lengths) ≡ unknowns l.lengths;
  fewer : l.count ≤ l.length-index;
}
