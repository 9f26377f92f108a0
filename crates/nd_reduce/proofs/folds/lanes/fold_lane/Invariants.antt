use Rattle.std.proofs.Common.{◌≡◌, ◌-◌, ◌≤◌, take, drop}
use Rattle.nd_reduce.proofs.folds.lanes.fold_lane.Given as goal

abbrev pub invariant-loop-done : goal.invariant-loop-done
invariant-loop-done g l = record {
  within : l.done ≤ l.count;
  taken : g.F.FoldStep.has_taken l.fold (take l.done l.fn.numbers.numbers);
  left : l.numbers.numbers ≡ drop l.done l.fn.numbers.numbers;
  size : l.numbers.kind ≡ l.fn.numbers.kind;
}

abbrev pub decreases-loop-done : goal.decreases-loop-done
decreases-loop-done g l = l.count - l.done
