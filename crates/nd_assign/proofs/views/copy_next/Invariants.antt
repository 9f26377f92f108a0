use Rattle.std.proofs.Common.{◌≡◌, ◌-◌, ◌≤◌, length, take, drop}
use Rattle.nd_types.specs.Types.{type_of}
use Rattle.nd_assign.specs.Copies.{with_copies}
use Rattle.nd_assign.proofs.views.copy_next.Given as goal

abbrev pub invariant-loop-at : goal.invariant-loop-at
invariant-loop-at l = record {
  inside : l.at ≤ length l.run;
  len : length l.out ≡ length l.fn.out;
  walk : l.walk ≡ drop l.at l.fn.walk;
  done : l.out ≡ with_copies (type_of l.to) (type_of l.from) l.bytes (take l.at l.run) (take l.at l.fn.walk) l.fn.out;
}

abbrev pub decreases-loop-at : goal.decreases-loop-at
decreases-loop-at l = l.count - l.at
