use Rattle.std.specs.Prelude.{IsTrue}
use Rattle.std.proofs.Common.{string_bytes}
use Rattle.nd_model.specs.Cells.Running.{Name}
use Rattle.nd_heap.proofs.Entries.{AllBefore}
use Rattle.nd_session.specs.Session.Filter.{StaysCovered, covers}
use Rattle.nd_session.proofs.session.change.covering.add_names.Given as goal

abbrev pub invariant-loop-i : goal.invariant-loop-i
invariant-loop-i g l = AllBefore (λ e. IsTrue (covers l.filter (Name (string_bytes e.0)))) l.names.entries l.i × StaysCovered l.initial.filter l.filter
