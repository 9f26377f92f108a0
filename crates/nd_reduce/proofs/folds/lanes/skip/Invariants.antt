use Rattle.std.proofs.Common.{◌≡◌, ◌-◌, ◌≤◌, drop}
use Rattle.nd_reduce.proofs.folds.lanes.skip.Given as goal

abbrev pub invariant-loop-done : goal.invariant-loop-done
invariant-loop-done l = record {
  within : l.done ≤ l.count;
  left : l.numbers.numbers ≡ drop l.done l.fn.numbers.numbers;
  size : l.numbers.kind ≡ l.fn.numbers.kind;
}

abbrev pub decreases-loop-done : goal.decreases-loop-done
decreases-loop-done l = l.count - l.done
