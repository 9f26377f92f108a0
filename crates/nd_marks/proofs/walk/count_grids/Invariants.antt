use Rattle.std.proofs.Common.{◌≡◌, length, min, take}
use Rattle.nd_marks.specs.Kept.{grids_places}
use Rattle.nd_marks.proofs.walk.count_grids.Given as goal

abbrev pub invariant-loop-grid : goal.invariant-loop-grid
invariant-loop-grid l = l.count ≡ min (length (grids_places (take l.grid-index l.grids))) l.most
