use Rattle.std.proofs.Common.{◌≤◌}
use Rattle.nd_heap.specs.Layers.{LieElsewhere}
use Rattle.nd_heap.proofs.names.skip_rows.Given as goal

abbrev pub invariant-loop : goal.invariant-loop
invariant-loop l = (l.start ≤ l.fn.end) × LieElsewhere l.marks l.mark l.start l.fn.end
