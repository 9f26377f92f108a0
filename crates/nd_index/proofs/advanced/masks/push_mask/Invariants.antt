use Rattle.std.proofs.Common.{◌≡◌, ◌+◌, ◌≤◌, ◌^◌, ◌++◌, length}
use Rattle.std.specs.List.{concat}
use Rattle.nd_index.proofs.advanced.SoleArrays.{true_run}
use Rattle.nd_index.proofs.advanced.masks.push_mask.Given as goal

abbrev pub invariant-loop-run : goal.invariant-loop-run
invariant-loop-run l = record {
  done : l.places.items ++ true_run l.row l.axes l.mask.elem.now l.mask.bytes.now l.first (concat l.runs)
      ≡ l.initial.places.items ++ true_run l.row l.axes l.mask.elem.now l.mask.bytes.now 0 l.mask.view.now.places;
  few : l.first + length (concat l.runs) ≤ 2 ^ 24;
}

abbrev pub decreases-loop-run : goal.decreases-loop-run
decreases-loop-run l = length l.runs
