use Rattle.std.proofs.Common.{◌≡◌, ℕ, ◌<◌, cond, length, map, slice_index}
use Rattle.nd_model.specs.Cells.Session.{is_in}
use Rattle.nd_marks.specs.Kept.{byte_of, places_in}
use Rattle.nd_marks.proofs.kept.KeptBytes.patch.Given as goal

abbrev pub invariant-loop-range : goal.invariant-loop-range
invariant-loop-range l = record {
  bytes : l.rest ≡ map (byte_of l.self) l.walk;
  len : length l.block ≡ length l.fn.block;
  put : (p : ℕ) → p < length l.fn.block → cond (is_in p l.walk) (byte_of l.self p) (slice_index l.block p) ≡ cond (is_in p (places_in l.self.marks)) (byte_of l.self p) (slice_index l.fn.block p);
}

abbrev pub decreases-loop-range : goal.decreases-loop-range
decreases-loop-range l = length l.walk
