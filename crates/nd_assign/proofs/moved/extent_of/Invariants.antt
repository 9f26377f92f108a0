use Rattle.std.proofs.Common.{length}
use Rattle.std.specs.List.{concat}
use Rattle.nd_assign.proofs.Nearer.{SoFar}
use Rattle.nd_assign.proofs.moved.extent_of.Given as goal

abbrev pub invariant-loop-run : goal.invariant-loop-run
invariant-loop-run l = SoFar l.view.places (concat l.runs) l.extent.first l.extent.last

abbrev pub decreases-loop-run : goal.decreases-loop-run
decreases-loop-run l = length l.runs
