use Rattle.std.proofs.Common.{◌≡◌, drop, unwrap_or}
use Rattle.nd_heap.specs.Live.{bytes_at}
use Rattle.nd_model.specs.Arrays.Value as values
use Rattle.nd_session.specs.Session.Now.{block_now}
use Rattle.nd_session.proofs.session.change.patching.put_blocks.Given as goal

abbrev pub invariant-loop-i : goal.invariant-loop-i
invariant-loop-i l = (l.heap.names ≡ l.fn.heap.names) × ((b : values.Base) → bytes_at l.heap.blocks b ≡ unwrap_or (block_now (drop l.i l.blocks.entries) b) (bytes_at l.fn.heap.blocks b))
