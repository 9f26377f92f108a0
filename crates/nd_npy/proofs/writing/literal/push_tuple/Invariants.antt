-- What is written so far goes on with the numbers that are left.
use Rattle.std.proofs.Common.{◌≡◌, ◌++◌, ◌==◌, drop, map, true, decimal}
use Rattle.nd_npy.specs.Writing.Items.{items_left}
use Rattle.nd_npy.proofs.writing.literal.push_tuple.Given as goal

abbrev pub invariant-loop-index : goal.invariant-loop-index
invariant-loop-index l =
    l.out.items ++ items_left (l.index == 0) (map decimal (drop l.index l.numbers)) ≡ l.initial.out.items ++ items_left true (map decimal l.numbers)
