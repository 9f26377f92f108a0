use Rattle.std.specs.Prelude.{IsTrue}
use Rattle.nd_model.specs.Cells.Running.{Name}
use Rattle.nd_heap.proofs.Entries.{AllBefore}
use Rattle.nd_trace.specs.Events.{event_of, name_of_event}
use Rattle.nd_session.specs.Session.Filter.{StaysCovered, covers}
use Rattle.nd_session.proofs.session.change.covering.add_events.Given as goal

abbrev pub invariant-loop-event : goal.invariant-loop-event
invariant-loop-event l = AllBefore (λ e. IsTrue (covers l.filter (Name (name_of_event (event_of e))))) l.events l.event-index × StaysCovered l.initial.filter l.filter
