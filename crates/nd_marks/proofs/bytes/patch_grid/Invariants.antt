use Rattle.std.proofs.Common.{◌≡◌, ℕ, ◌<◌, cond, length, slice_index}
use Rattle.nd_marks.specs.Marks.{in_lines}
use Rattle.nd_marks.proofs.bytes.patch_grid.Given as goal

abbrev pub invariant-loop-number : goal.invariant-loop-number
invariant-loop-number l = record {
  len : length l.target ≡ length l.fn.target;
  bytes : (p : ℕ) → p < length l.fn.target → slice_index l.target p ≡ cond (in_lines l.grid.strip l.grid.jump l.number p) (slice_index l.source p) (slice_index l.fn.target p);
}
