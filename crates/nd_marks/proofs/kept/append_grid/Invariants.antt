use Rattle.std.proofs.Common.{◌≡◌, ◌++◌, map, slice_index}
use Rattle.nd_marks.specs.Kept.{lines_left}
use Rattle.nd_marks.proofs.kept.append_grid.Given as goal

abbrev pub invariant-loop-number : goal.invariant-loop-number
invariant-loop-number l = l.bytes.items ++ map (slice_index l.block) (lines_left l.grid l.number) ≡ l.fn.bytes.items ++ map (slice_index l.block) (lines_left l.grid 0)
