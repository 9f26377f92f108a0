use Rattle.std.proofs.Common.{◌≡◌, take}
use Rattle.nd_heap.specs.Layers.{overridden}
use Rattle.nd_heap.specs.Values.{names_of}
use Rattle.nd_heap.proofs.names.put_newer.Given as goal

abbrev pub invariant-loop-i : goal.invariant-loop-i
invariant-loop-i l = names_of l.names.entries ≡ overridden (take l.i (names_of l.newer.entries)) (names_of l.initial.names.entries)
