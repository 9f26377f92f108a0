use Rattle.nd_heap.proofs.Entries.{AllBefore}
use Rattle.nd_session.specs.Session.Now.{block_now, part_now}
use Rattle.nd_session.proofs.session.Fitting.{AreBytesFit}
use Rattle.nd_session.proofs.session.change.fitting.fit_bytes.Given as goal

abbrev pub invariant-loop-i : goal.invariant-loop-i
invariant-loop-i l = AllBefore (AreBytesFit (block_now l.blocks.entries) (part_now l.parts.entries)) l.reads.entries l.i
