use Rattle.std.proofs.Common.{◌≡◌, ◌++◌, map, drop}
use Rattle.nd_trace.specs.Events.{event_of}
use Rattle.nd_session.proofs.session.changes.copy_events.Given as goal

abbrev pub invariant-loop-event : goal.invariant-loop-event
invariant-loop-event l = map event_of l.copy.items ++ map event_of (drop l.event-index l.events) ≡ map event_of l.events
