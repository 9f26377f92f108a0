use Rattle.std.proofs.Common.{◌≡◌, ◌+◌, length}
use Rattle.std.specs.List.{concat}
use Rattle.nd_ufunc.specs.Elementwise.KeptOff.{KeepsOff}
use Rattle.nd_ufunc.proofs.elementwise.apart.view_keeps_off.Given as goal

abbrev pub invariant-loop-run : goal.invariant-loop-run
invariant-loop-run l = record {
  many : l.at + length (concat l.runs) ≡ length l.view.places;
  left : KeepsOff l.size l.first l.step l.at (concat l.runs) → KeepsOff l.size l.first l.step 0 l.view.places;
  part : KeepsOff l.size l.first l.step 0 l.view.places → KeepsOff l.size l.first l.step l.at (concat l.runs);
}

abbrev pub decreases-loop-run : goal.decreases-loop-run
decreases-loop-run l = length l.runs
