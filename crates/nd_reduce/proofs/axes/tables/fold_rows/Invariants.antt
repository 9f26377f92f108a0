use Rattle.std.proofs.Common.{◌≡◌, ℤ, ◌+◌, ◌-◌, ◌*◌, ◌≤◌, List, [], ◌++◌, drop, replicate}
use Rattle.std.specs.Prelude.{if◌then◌else◌}
use Rattle.nd_model.specs.Arrays.Element.{size_of}
use Rattle.nd_types.specs.Kinds.{kind_of}
use Rattle.nd_reduce.specs.Folds.Lanes.{fold_bytes}
use Rattle.nd_reduce.specs.Axes.Tables.{row_columns}
use Rattle.nd_reduce.proofs.axes.Tabled.{AreRows}
use Rattle.nd_reduce.proofs.axes.tables.fold_rows.Given as goal

abbrev pub invariant-loop-taken : goal.invariant-loop-taken
invariant-loop-taken g l = record {
  within : l.taken ≤ l.rows;
  left : l.numbers.numbers ≡ drop (l.taken * l.width) l.fn.numbers.numbers;
  kind : l.numbers.kind ≡ l.fn.numbers.kind;
  room : l.out.1 + (if l.each then l.taken else 0) * (l.width * size_of (kind_of l.to)) ≡ l.fn.out.1;
  folds : (columns : List (List ℤ)) × AreRows g.F.FoldStep.reduction g.F.Best.Bests.kept (kind_of l.kind) (kind_of l.to) l.each l.width l.taken (l.rows - l.taken) l.out.0 l.folds l.bests l.numbers.numbers
      (l.fn.out.0 ++ fold_bytes g.F.FoldStep.reduction (kind_of l.to) (row_columns l.each l.width l.rows (replicate l.width []) l.fn.numbers.numbers)) columns;
}

abbrev pub decreases-loop-taken : goal.decreases-loop-taken
decreases-loop-taken g l = l.rows - l.taken
