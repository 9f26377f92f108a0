use Rattle.std.proofs.Common.{IsFalse}
use Rattle.nd_heap.specs.Layers.{LieElsewhere}
use Rattle.nd_heap.proofs.names.has_mark.Given as goal

abbrev pub invariant-loop-i : goal.invariant-loop-i
invariant-loop-i l = IsFalse l.is_there → LieElsewhere l.marks l.mark l.from l.i
