use Rattle.std.proofs.Common.{◌≡◌, ◌++◌, drop, map, slice_index}
use Rattle.nd_marks.specs.Kept.{grids_places}
use Rattle.nd_marks.proofs.kept.append_grids.Given as goal

abbrev pub invariant-loop-grid : goal.invariant-loop-grid
invariant-loop-grid l = l.bytes.items ++ map (slice_index l.block) (grids_places (drop l.grid-index l.grids)) ≡ l.fn.bytes.items ++ map (slice_index l.block) (grids_places l.grids)
