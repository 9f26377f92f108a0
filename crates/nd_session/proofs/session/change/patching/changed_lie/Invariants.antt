use Rattle.nd_heap.proofs.Entries.{AllBefore}
use Rattle.nd_heap.specs.Live.{bytes_at}
use Rattle.nd_model.specs.Cells.Sound.{IsViewOf}
use Rattle.nd_session.specs.Session.Intact.{LiesThere}
use Rattle.nd_session.proofs.session.Putting.{IsBoundTo}
use Rattle.nd_session.proofs.session.change.patching.changed_lie.Given as goal

abbrev pub invariant-loop-i : goal.invariant-loop-i
invariant-loop-i l = AllBefore (IsBoundTo (IsViewOf (LiesThere l.label l.next (bytes_at l.heap.blocks)))) l.names.entries l.i
