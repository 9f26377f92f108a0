use Rattle.std.proofs.Common.{◌≡◌, ℕ, ◌<◌, cond, take, length, slice_index}
use Rattle.nd_marks.specs.Marks.{in_grids}
use Rattle.nd_marks.proofs.bytes.patch_grids.Given as goal

abbrev pub invariant-loop-grid : goal.invariant-loop-grid
invariant-loop-grid l = (p : ℕ) → p < length l.target → slice_index l.target p ≡ cond (in_grids (take l.grid-index l.grids) p) (slice_index l.source p) (slice_index l.fn.target p)
