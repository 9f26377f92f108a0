use Rattle.nd_heap.proofs.Entries.{AllBefore}
use Rattle.nd_heap.specs.Live.{bytes_at}
use Rattle.nd_session.specs.Session.Intact.{LiesThere}
use Rattle.nd_session.proofs.session.Putting.{IsViewIn}
use Rattle.nd_session.proofs.session.change.patching.all_lie.Given as goal

abbrev pub invariant-loop-i : goal.invariant-loop-i
invariant-loop-i l = AllBefore (IsViewIn (LiesThere l.label l.next (bytes_at l.heap.blocks))) l.heap.names l.i
