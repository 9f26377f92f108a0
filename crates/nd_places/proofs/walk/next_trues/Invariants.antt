use Rattle.std.proofs.Common.{◌≡◌, ◌-◌, ◌≤◌, ◌++◌, length, take}
use Rattle.nd_places.specs.Left.{trues_left}
use Rattle.nd_places.proofs.walk.next_trues.Given as goal

abbrev pub invariant-loop-count : goal.invariant-loop-count
invariant-loop-count l = record {
  room : length l.room ≡ length l.fn.room;
  few : l.count ≤ length l.room;
  split : trues_left l.trues l.fn.done ≡ take l.count l.room ++ trues_left l.trues l.done;
}

abbrev pub decreases-loop-count : goal.decreases-loop-count
decreases-loop-count l = length l.mask - l.done
