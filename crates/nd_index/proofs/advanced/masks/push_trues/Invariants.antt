use Rattle.std.proofs.Common.{◌≡◌, ◌+◌, ◌-◌, ◌≤◌, ◌++◌, drop, length}
use Rattle.nd_index.proofs.advanced.SoleArrays.{true_run}
use Rattle.nd_index.proofs.advanced.masks.push_trues.Given as goal

abbrev pub invariant-loop-at : goal.invariant-loop-at
invariant-loop-at l = record {
  room : length l.numbers ≡ 512;
  few : l.at ≤ length l.run;
  done : l.places.items ++ true_run l.row l.axes l.mask.elem.now l.mask.bytes.now (l.first + l.at) (drop l.at l.run)
      ≡ l.initial.places.items ++ true_run l.row l.axes l.mask.elem.now l.mask.bytes.now l.first l.run;
}

abbrev pub decreases-loop-at : goal.decreases-loop-at
decreases-loop-at l = length l.run - l.at
