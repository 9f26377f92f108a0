use Rattle.nd_model.specs.Cells.Running as running
use Rattle.nd_heap.proofs.Entries.{AllBefore}
use Rattle.nd_session.proofs.session.Agreeing.{AreBytesFound}
use Rattle.nd_session.specs.Session.Live.{live}
use Rattle.nd_session.proofs.session.reads.have_same_bytes.Given as goal

abbrev pub invariant-loop-i : goal.invariant-loop-i
invariant-loop-i l = AllBefore (AreBytesFound (running.session_of (live l.session))) l.reads.entries l.i
