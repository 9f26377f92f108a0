use Rattle.std.proofs.Common.{◌≡◌, ℕ, ◌+◌, ◌<◌, slice_index}
use Rattle.std.specs.Prelude.{IsTrue}
use Rattle.nd_marks.specs.Marks.{holds}
use Rattle.nd_marks.proofs.kept.has_marked.Given as goal

abbrev pub invariant-loop-at : goal.invariant-loop-at
invariant-loop-at l = (i : ℕ) → i < l.at → IsTrue (holds l.marks (l.from + i)) → slice_index l.block (l.from + i) ≡ slice_index l.bytes i
