use Rattle.std.proofs.Common.{◌≡◌, ◌+◌, ◌-◌, ◌*◌, ◌≤◌, ◌++◌, take, drop}
use Rattle.nd_model.specs.Arrays.Element.{size_of}
use Rattle.nd_types.specs.Kinds.{kind_of}
use Rattle.nd_reduce.specs.Folds.Lanes.{prefix_bytes}
use Rattle.nd_reduce.proofs.folds.prefixes.accumulate_lane.Given as goal

abbrev pub invariant-loop-done : goal.invariant-loop-done
invariant-loop-done g l = record {
  within : l.done ≤ l.count;
  taken : g.F.FoldStep.has_taken l.fold (take l.done l.fn.numbers.numbers);
  left : l.numbers.numbers ≡ drop l.done l.fn.numbers.numbers;
  size : l.numbers.kind ≡ l.fn.numbers.kind;
  room : l.out.1 + l.done * size_of (kind_of l.to) ≡ l.fn.out.1;
  written : l.out.0 ≡ l.fn.out.0 ++ prefix_bytes g.F.FoldStep.reduction (kind_of l.to) (take l.done l.fn.numbers.numbers);
}

abbrev pub decreases-loop-done : goal.decreases-loop-done
decreases-loop-done g l = l.count - l.done
