use Rattle.std.proofs.Common.{◌≡◌, ◌-◌, ◌*◌, ◌<◌, ℕ, true, slice_index}
use Rattle.nd_marks.specs.Marks.{has_bit, pages_of}
use Rattle.nd_marks.proofs.bytes.is_same_pages.Given as goal

abbrev pub invariant-loop-at : goal.invariant-loop-at
invariant-loop-at l = (p : ℕ) → p < l.at * 64 → has_bit (pages_of l.pages) p ≡ true → slice_index l.a p ≡ slice_index l.b p

abbrev pub decreases-loop-at : goal.decreases-loop-at
decreases-loop-at l = l.end - l.at
