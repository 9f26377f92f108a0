use Rattle.std.proofs.Common.{◌≡◌, ℕ}
use Rattle.nd_model.specs.Arrays.Value as values
use Rattle.nd_heap.specs.Live.{bytes_at}
use Rattle.nd_session.specs.Session.Found.{byte_found}
use Rattle.nd_session.proofs.session.Retaining.{writes_before}
use Rattle.nd_session.proofs.session.changes.find_written.Given as goal

abbrev pub invariant-loop-i : goal.invariant-loop-i
invariant-loop-i l = (b : values.Base) (p : ℕ) → byte_found l.written.entries b p ≡ writes_before l.label l.marked.entries l.i (bytes_at l.heap.blocks) b p
