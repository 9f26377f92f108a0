use Rattle.nd_heap.proofs.Entries.{AllBefore}
use Rattle.nd_session.specs.Session.Now.{block_now}
use Rattle.nd_session.proofs.session.Fitting.{IsLengthFit}
use Rattle.nd_session.proofs.session.change.fitting.fit_lengths.Given as goal

abbrev pub invariant-loop-i : goal.invariant-loop-i
invariant-loop-i l = AllBefore (IsLengthFit (block_now l.blocks.entries)) l.reads.entries l.i
