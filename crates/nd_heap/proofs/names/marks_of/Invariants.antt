use Rattle.std.proofs.Common.{◌≡◌, length}
use Rattle.nd_heap.specs.Layers.{AreMarked}
use Rattle.nd_heap.specs.Values.{names_of}
use Rattle.nd_heap.proofs.names.marks_of.Given as goal

abbrev pub invariant-loop-i : goal.invariant-loop-i
invariant-loop-i l = (length l.marks.items ≡ l.i) × AreMarked (names_of l.names.entries) l.marks.items
