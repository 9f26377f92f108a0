use Rattle.std.proofs.Common.{◌≡◌, take}
use Rattle.nd_heap.specs.Values.{names_of}
use Rattle.nd_heap.proofs.name_table.NameTable.flat.Given as goal

abbrev pub invariant-loop-i : goal.invariant-loop-i
invariant-loop-i l = names_of l.flat.entries ≡ take l.i l.self
