use Rattle.std.proofs.Common.{◌≡◌, ℕ, true, take, slice_index}
use Rattle.nd_marks.specs.Marks.{in_grids}
use Rattle.nd_marks.proofs.bytes.is_same_grids.Given as goal

abbrev pub invariant-loop-grid : goal.invariant-loop-grid
invariant-loop-grid l = (p : ℕ) → in_grids (take l.grid-index l.grids) p ≡ true → slice_index l.a p ≡ slice_index l.b p
