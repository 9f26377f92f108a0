use Rattle.std.proofs.Common.{◌≡◌, ◌+◌, ◌-◌, ◌≤◌, length, drop}
use Rattle.nd_places.specs.Near.{trues_in}
use Rattle.nd_places.proofs.masks.count_trues.Given as goal

abbrev pub invariant-loop-at : goal.invariant-loop-at
invariant-loop-at l = record {
  total : l.count + length (trues_in 0 (drop l.at l.mask)) ≡ length (trues_in 0 l.mask);
  few : l.count ≤ l.at;
  within : l.at ≤ length l.mask;
}

abbrev pub decreases-loop-at : goal.decreases-loop-at
decreases-loop-at l = length l.mask - l.at
