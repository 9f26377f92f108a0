use Rattle.std.proofs.Common.{map, take}
use Rattle.nd_heap.specs.Values.{entries_of}
use Rattle.nd_session.specs.Session.Order.{IsOrderBehind, names_in}
use Rattle.nd_session.proofs.session.Ordering.{unit_at}
use Rattle.nd_session.proofs.session.order.note_events.Given as goal
use Rattle.nd_trace.specs.Events.{event_of}

abbrev pub invariant-loop-event : goal.invariant-loop-event
invariant-loop-event l = IsOrderBehind (names_in (entries_of unit_at l.fn.names.entries)) (map event_of (take l.event-index l.events)) (names_in (entries_of unit_at l.names.entries))
