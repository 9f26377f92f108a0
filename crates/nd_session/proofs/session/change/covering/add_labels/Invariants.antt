use Rattle.nd_heap.proofs.Entries.{AllBefore}
use Rattle.nd_session.specs.Session.Filter.{CoversLabel, StaysCovered}
use Rattle.nd_session.proofs.session.change.covering.add_labels.Given as goal

abbrev pub invariant-loop-i : goal.invariant-loop-i
invariant-loop-i g l = AllBefore (λ e. CoversLabel l.filter e.0.label) l.bases.entries l.i × StaysCovered l.initial.filter l.filter
