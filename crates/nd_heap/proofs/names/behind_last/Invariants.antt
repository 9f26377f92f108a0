use Rattle.nd_heap.specs.Layers.{LieElsewhere}
use Rattle.nd_heap.proofs.names.behind_last.Given as goal

abbrev pub invariant-loop-i : goal.invariant-loop-i
invariant-loop-i l = LieElsewhere l.marks l.mark l.i l.end
