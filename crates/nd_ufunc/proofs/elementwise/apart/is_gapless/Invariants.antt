use Rattle.std.proofs.Common.{◌≡◌, ◌+◌, length}
use Rattle.std.specs.List.{concat}
use Rattle.nd_ufunc.proofs.elementwise.Gapless.{AreStepped}
use Rattle.nd_ufunc.proofs.elementwise.apart.is_gapless.Given as goal

abbrev pub invariant-loop-run : goal.invariant-loop-run
invariant-loop-run l = record {
  many : l.at + length (concat l.runs) ≡ length l.view.places;
  left : AreStepped l.size l.first l.at (concat l.runs) → AreStepped l.size l.first 0 l.view.places;
  part : AreStepped l.size l.first 0 l.view.places → AreStepped l.size l.first l.at (concat l.runs);
}

abbrev pub decreases-loop-run : goal.decreases-loop-run
decreases-loop-run l = length l.runs
