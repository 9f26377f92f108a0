use Rattle.std.proofs.Common.{◌≡◌, ◌*◌, ◌≤◌, ◌++◌, length, drop}
use Rattle.nd_model.specs.Arrays.Element.{size_of}
use Rattle.nd_types.specs.Kinds.{kind_of}
use Rattle.nd_reduce.specs.Folds.Lanes.{fold_bytes, lanes_in}
use Rattle.nd_reduce.proofs.folds.lanes.fold_lanes.Given as goal

abbrev pub invariant-loop-rest : goal.invariant-loop-rest
invariant-loop-rest g l = record {
  unread : l.unread ≤ length l.numbers.numbers;
  numbers : length (drop l.unread l.numbers.numbers) ≡ l.rest * l.count;
  size : l.numbers.kind ≡ l.fn.numbers.kind;
  buffer : length l.buffer ≡ 16384;
  bytes : length l.bytes ≡ 8;
  room : l.rest * size_of (kind_of l.to) ≡ l.out.1;
  written : l.out.0 ++ fold_bytes g.F.FoldStep.reduction (kind_of l.to) (lanes_in l.count l.rest (drop l.unread l.numbers.numbers))
      ≡ l.fn.out.0 ++ fold_bytes g.F.FoldStep.reduction (kind_of l.to) (lanes_in l.count l.fn.lanes l.fn.numbers.numbers);
}

abbrev pub decreases-loop-rest : goal.decreases-loop-rest
decreases-loop-rest g l = l.rest
