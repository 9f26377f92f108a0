use Rattle.nd_heap.proofs.Entries.{AllBefore}
use Rattle.nd_session.specs.Session.Filter.{CoversLength, StaysCovered}
use Rattle.nd_session.proofs.session.change.covering.add_lengths.Given as goal

abbrev pub invariant-loop-i : goal.invariant-loop-i
invariant-loop-i l = AllBefore (λ e. CoversLength l.filter e.0.label) l.lengths.entries l.i × StaysCovered l.initial.filter l.filter
