use Rattle.nd_heap.proofs.Entries.{AllBefore}
use Rattle.nd_session.proofs.session.Agreeing.{IsNameFound}
use Rattle.nd_session.specs.Session.Live.{live}
use Rattle.nd_session.proofs.session.reads.have_same_names.Given as goal

abbrev pub invariant-loop-i : goal.invariant-loop-i
invariant-loop-i l = AllBefore (IsNameFound (live l.session).names) l.reads.entries l.i
