use Rattle.nd_heap.proofs.Entries.{AllBefore}
use Rattle.nd_session.specs.Session.Filter.{CoversFound, StaysCovered}
use Rattle.nd_session.specs.Session.Found.{bytes_of}
use Rattle.nd_session.proofs.session.change.covering.add_found.Given as goal

abbrev pub invariant-loop-i : goal.invariant-loop-i
invariant-loop-i l = AllBefore (λ e. CoversFound l.filter e.0.label (bytes_of e.1)) l.found.entries l.i × StaysCovered l.initial.filter l.filter
