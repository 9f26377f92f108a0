use Rattle.std.proofs.Common.{◌≡◌, ℤ, ◌*◌, List, length, take}
use Rattle.nd_model.specs.Arrays.Element.{size_of}
use Rattle.nd_types.specs.Kinds.{kind_of}
use Rattle.nd_ufunc.specs.Loops.Sides.{numbers_on}
use Rattle.nd_reduce.specs.Folds.Lanes.{fold_bytes}
use Rattle.nd_reduce.specs.Axes.Tables.{AreFolds, more_columns}
use Rattle.nd_reduce.proofs.axes.columns.extend_each.Given as goal

abbrev pub invariant-loop-index : goal.invariant-loop-index
invariant-loop-index g l = record {
  len : length l.out ≡ length l.fn.out;
  done : (columns : List (List ℤ)) → length columns ≡ l.count → AreFolds g.F.FoldStep.reduction g.F.Best.Bests.kept (kind_of l.kind) (kind_of l.to) l.taken l.folds l.bests columns
      → take (l.index * size_of (kind_of l.to)) l.out ≡ fold_bytes g.F.FoldStep.reduction (kind_of l.to) (more_columns (take l.index columns) (numbers_on l.side l.index));
}
