use Rattle.std.proofs.Common.{◌≡◌, ◌*◌, length, map, slice_index, take}
use Rattle.nd_marks.specs.Kept.{row_places}
use Rattle.nd_marks.proofs.bytes.copy_rows.Given as goal

abbrev pub invariant-loop-row : goal.invariant-loop-row
invariant-loop-row l = record {
  len : length l.target ≡ length l.fn.target;
  done : take (l.row * l.width) l.target ≡ map (slice_index l.block) (row_places l.first l.width l.step l.row);
}
