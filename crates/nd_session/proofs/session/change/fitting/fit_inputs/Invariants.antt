use Rattle.nd_heap.proofs.Entries.{AllBefore}
use Rattle.nd_session.specs.Session.Now.{input_now}
use Rattle.nd_session.proofs.session.Fitting.{IsInputFit}
use Rattle.nd_session.proofs.session.change.fitting.fit_inputs.Given as goal

abbrev pub invariant-loop-i : goal.invariant-loop-i
invariant-loop-i l = AllBefore (IsInputFit (input_now l.inputs.entries)) l.reads.entries l.i
