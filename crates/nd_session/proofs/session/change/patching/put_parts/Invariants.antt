use Rattle.std.proofs.Common.{◌≡◌}
use Rattle.nd_heap.specs.Live.{bytes_at}
use Rattle.nd_model.specs.Arrays.Value as values
use Rattle.nd_session.proofs.session.Putting.{parts_before}
use Rattle.nd_session.proofs.session.change.patching.put_parts.Given as goal

abbrev pub invariant-loop-i : goal.invariant-loop-i
invariant-loop-i l = (l.heap.names ≡ l.fn.heap.names) × ((b : values.Base) → bytes_at l.heap.blocks b ≡ parts_before l.parts.entries l.i (bytes_at l.fn.heap.blocks) b)
