use Rattle.std.proofs.Common.{◌≡◌, ◌-◌, ◌≤◌, length}
use Rattle.nd_model.specs.Arrays.Tuple.{count_up}
use Rattle.nd_model.specs.Arrays.View.{One}
use Rattle.nd_assign.specs.Copies.{with_copies}
use Rattle.nd_assign.specs.Grids.{grid_place}
use Rattle.nd_assign.proofs.Gridded.{first_columns}
use Rattle.nd_assign.proofs.columns.copy_bands.Given as goal

abbrev pub invariant-loop-row : goal.invariant-loop-row
invariant-loop-row l = record {
  inside : l.row ≤ l.target.rows;
  len : length l.out ≡ length l.fn.out;
  done : l.out ≡ with_copies (One l.to) (One l.from) l.bytes
      (first_columns (grid_place l.target.start l.target.across l.target.along) l.target.columns (count_up 0 l.row))
      (first_columns (grid_place l.source.start l.source.across l.source.along) l.source.columns (count_up 0 l.row)) l.fn.out;
}

abbrev pub decreases-loop-row : goal.decreases-loop-row
decreases-loop-row l = l.target.rows - l.row
