use Rattle.nd_heap.proofs.Entries.{AllBefore}
use Rattle.nd_session.specs.Session.Now.{block_now}
use Rattle.nd_session.specs.Session.Patch.{LiesInKnown}
use Rattle.nd_session.proofs.session.Putting.{IsBoundTo}
use Rattle.nd_session.proofs.session.change.patching.are_known.Given as goal

abbrev pub invariant-loop-i : goal.invariant-loop-i
invariant-loop-i l = AllBefore (IsBoundTo (LiesInKnown l.heap.names (block_now l.blocks.entries))) l.names.entries l.i
