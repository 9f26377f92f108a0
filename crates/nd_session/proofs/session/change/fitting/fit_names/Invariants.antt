use Rattle.nd_heap.proofs.Entries.{AllBefore}
use Rattle.nd_session.specs.Session.Now.{value_now}
use Rattle.nd_session.proofs.session.Fitting.{IsNameFit}
use Rattle.nd_session.proofs.session.change.fitting.fit_names.Given as goal

abbrev pub invariant-loop-i : goal.invariant-loop-i
invariant-loop-i l = AllBefore (IsNameFit (value_now l.names.entries)) l.reads.entries l.i
