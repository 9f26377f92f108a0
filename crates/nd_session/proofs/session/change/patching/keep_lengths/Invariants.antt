use Rattle.nd_heap.proofs.Entries.{AllBefore}
use Rattle.nd_heap.specs.Loose.{session_in}
use Rattle.nd_model.specs.Cells.Session.{held_bytes}
use Rattle.nd_session.proofs.session.Putting.{KeepsLength}
use Rattle.nd_session.proofs.session.change.patching.keep_lengths.Given as goal

abbrev pub invariant-loop-i : goal.invariant-loop-i
invariant-loop-i l = AllBefore (KeepsLength (held_bytes (session_in l.heap))) l.blocks.entries l.i
