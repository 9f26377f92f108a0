use Rattle.std.proofs.Common.{◌≡◌, ℕ, ◌+◌, ◌*◌, ◌<◌, slice_index, IsTrue}
use Rattle.nd_scatter.proofs.numbers.are_side_by_side.Given as goal

abbrev pub invariant-loop-index : goal.invariant-loop-index
invariant-loop-index l = record {
  same : IsTrue l.all → (k : ℕ) → k < l.index → slice_index l.places k ≡ slice_index l.places 0 + k * l.size;
}
