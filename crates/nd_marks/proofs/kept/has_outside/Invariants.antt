use Rattle.std.proofs.Common.{◌≡◌, ℕ, ◌+◌, ◌<◌, slice_index}
use Rattle.nd_marks.proofs.kept.has_outside.Given as goal

abbrev pub invariant-loop-at : goal.invariant-loop-at
invariant-loop-at l = (i : ℕ) → i < l.at → slice_index l.block (l.from + i) ≡ slice_index l.bytes i
