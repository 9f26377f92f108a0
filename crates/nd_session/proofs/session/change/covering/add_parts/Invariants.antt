use Rattle.nd_heap.proofs.Entries.{AllBefore}
use Rattle.nd_session.specs.Session.Filter.{CoversKept, StaysCovered}
use Rattle.nd_session.proofs.session.change.covering.add_parts.Given as goal

abbrev pub invariant-loop-i : goal.invariant-loop-i
invariant-loop-i l = AllBefore (λ e. CoversKept l.filter e.0.label e.1.value) l.parts.entries l.i × StaysCovered l.initial.filter l.filter
