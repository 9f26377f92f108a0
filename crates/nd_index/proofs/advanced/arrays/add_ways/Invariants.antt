use Rattle.std.proofs.Common.{◌≡◌, ◌++◌, drop}
use Rattle.nd_index.specs.Offsets.Ways.{sums_at}
use Rattle.nd_index.proofs.advanced.arrays.add_ways.Given as goal

abbrev pub invariant-loop-at : goal.invariant-loop-at
invariant-loop-at l = l.sums.items ++ sums_at l.own (drop l.at l.ways) (drop l.at l.numbers) ≡ sums_at l.own l.ways l.numbers
