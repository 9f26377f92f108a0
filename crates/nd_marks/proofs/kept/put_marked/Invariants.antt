use Rattle.std.proofs.Common.{◌≡◌, ℕ, ◌+◌, ◌<◌, ◌&&◌, nat_lt, cond, length, slice_index}
use Rattle.nd_marks.specs.Marks.{holds}
use Rattle.nd_marks.proofs.kept.put_marked.Given as goal

abbrev pub invariant-loop-at : goal.invariant-loop-at
invariant-loop-at l = (i : ℕ) → i < length l.bytes → slice_index l.bytes i ≡ cond (nat_lt i l.at && holds l.marks (l.from + i)) (slice_index l.block (l.from + i)) (slice_index l.fn.bytes i)
