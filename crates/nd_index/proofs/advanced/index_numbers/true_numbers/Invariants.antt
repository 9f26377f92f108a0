use Rattle.std.proofs.Common.{◌≡◌, ◌+◌, ◌≤◌, ◌^◌, ◌++◌, map, length}
use Rattle.nd_model.specs.Indexing.Advanced as model
use Rattle.nd_index.specs.Items.Items.{numbers_of}
use Rattle.nd_index.proofs.advanced.index_numbers.true_numbers.Given as goal

abbrev pub invariant-loop-number : goal.invariant-loop-number
invariant-loop-number l = record {
  done : l.numbers.items ++ model.true_numbers l.at (map model.is_nonzero l.walk) ≡ model.true_numbers 0 (map model.is_nonzero (numbers_of l.mask));
  few : l.at + length l.walk ≤ 2 ^ 24;
}

abbrev pub decreases-loop-number : goal.decreases-loop-number
decreases-loop-number l = length l.walk
