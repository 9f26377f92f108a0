use Rattle.std.proofs.Common.{◌≡◌, ◌++◌, drop}
use Rattle.nd_index.specs.Offsets.Ways.{sums_of}
use Rattle.nd_index.proofs.advanced.arrays.add_each.Given as goal

abbrev pub invariant-loop-at : goal.invariant-loop-at
invariant-loop-at l = l.sums.items ++ sums_of (drop l.at l.ways) (drop l.at l.own) ≡ sums_of l.ways l.own
