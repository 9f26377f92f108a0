use Rattle.std.proofs.Common.{◌≡◌, ◌≤◌, ◌^◌, ◌++◌, map, length}
use Rattle.std.specs.List.{All}
use Rattle.nd_model.specs.Indexing.Selecting.{counted_from}
use Rattle.nd_index.specs.Items.Items.{numbers_of}
use Rattle.nd_index.proofs.advanced.index_numbers.positions_of.Given as goal

abbrev pub invariant-loop-number : goal.invariant-loop-number
invariant-loop-number l = record {
  done : l.positions.items ++ map (counted_from l.size) l.walk ≡ map (counted_from l.size) (numbers_of l.array);
  near : All (λ k. k ≤ 2 ^ 32) (map (counted_from l.size) l.walk);
}

abbrev pub decreases-loop-number : goal.decreases-loop-number
decreases-loop-number l = length l.walk
