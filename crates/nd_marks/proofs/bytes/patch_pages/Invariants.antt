use Rattle.std.proofs.Common.{◌≡◌, ◌-◌, ◌*◌, ◌<◌, ◌&&◌, ℕ, nat_lt, cond, length, slice_index}
use Rattle.nd_marks.specs.Marks.{has_bit, pages_of}
use Rattle.nd_marks.proofs.bytes.patch_pages.Given as goal

abbrev pub invariant-loop-at : goal.invariant-loop-at
invariant-loop-at l = record {
  len : length l.target ≡ length l.fn.target;
  bytes : (p : ℕ) → p < length l.target → slice_index l.target p ≡ cond (nat_lt p (l.at * 64) && has_bit (pages_of l.pages) p) (slice_index l.source p) (slice_index l.fn.target p);
}

abbrev pub decreases-loop-at : goal.decreases-loop-at
decreases-loop-at l = l.end - l.at
