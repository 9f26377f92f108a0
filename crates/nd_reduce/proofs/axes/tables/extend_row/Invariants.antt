use Rattle.std.proofs.Common.{◌≡◌, ℤ, ◌-◌, ◌≤◌, List, length, drop}
use Rattle.nd_types.specs.Kinds.{kind_of}
use Rattle.nd_reduce.specs.Axes.Tables.{AreFolds}
use Rattle.nd_reduce.proofs.axes.Parts.{PartBests, part_row}
use Rattle.nd_reduce.proofs.axes.tables.extend_row.Given as goal

abbrev pub invariant-loop-done : goal.invariant-loop-done
invariant-loop-done g l = record {
  within : l.done ≤ l.width;
  left : l.numbers.numbers ≡ drop l.done l.fn.numbers.numbers;
  kind : l.numbers.kind ≡ l.fn.numbers.kind;
  folds : (columns : List (List ℤ)) → length columns ≡ l.width
      → AreFolds g.F.FoldStep.reduction g.F.Best.Bests.kept (kind_of l.kind) (kind_of l.to) l.taken l.fn.folds l.fn.bests columns
      → l.folds ≡ part_row g.F.FoldStep.reduction (kind_of l.to) columns l.fn.numbers.numbers l.fn.folds l.done;
  bests : (columns : List (List ℤ)) → length columns ≡ l.width
      → AreFolds g.F.FoldStep.reduction g.F.Best.Bests.kept (kind_of l.kind) (kind_of l.to) l.taken l.fn.folds l.fn.bests columns
      → PartBests (kind_of l.kind) columns l.fn.numbers.numbers l.fn.bests g.F.Best.Bests.kept l.done l.bests;
}

abbrev pub decreases-loop-done : goal.decreases-loop-done
decreases-loop-done g l = l.width - l.done
