use Rattle.std.proofs.Common.{◌≡◌, ℕ, ◌+◌, ◌<◌, cond, length, map, slice_index}
use Rattle.nd_model.specs.Cells.Session.{is_in}
use Rattle.nd_marks.specs.Kept.{byte_of, places_in}
use Rattle.nd_marks.proofs.kept.KeptBytes.patch_at.Given as goal

abbrev pub invariant-loop-range : goal.invariant-loop-range
invariant-loop-range l = record {
  bytes : l.rest ≡ map (byte_of l.self) l.walk;
  len : length l.block ≡ length l.fn.block;
  put : (i : ℕ) → i < length l.fn.block → cond (is_in (l.base + i) l.walk) (byte_of l.self (l.base + i)) (slice_index l.block i) ≡ cond (is_in (l.base + i) (places_in l.self.marks)) (byte_of l.self (l.base + i)) (slice_index l.fn.block i);
}

abbrev pub decreases-loop-range : goal.decreases-loop-range
decreases-loop-range l = length l.walk
