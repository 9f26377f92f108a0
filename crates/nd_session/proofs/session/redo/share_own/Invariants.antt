use Rattle.std.proofs.Common.{◌≡◌, cond, nat_eq, drop}
use Rattle.nd_model.specs.Arrays.Value as values
use Rattle.nd_heap.specs.Contents.{blocks_of}
use Rattle.nd_heap.specs.Live.{bytes_at}
use Rattle.nd_session.proofs.session.redo.share_own.Given as goal

abbrev pub invariant-loop-i : goal.invariant-loop-i
invariant-loop-i l = (l.heap.names ≡ l.fn.heap.names) × ((b : values.Base) → bytes_at l.heap.blocks b ≡ cond (nat_eq b.label l.label) (bytes_at (blocks_of (drop l.i l.from.entries)) b) (bytes_at l.fn.heap.blocks b))
