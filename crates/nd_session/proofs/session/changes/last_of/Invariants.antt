use Rattle.std.proofs.Common.{map, take}
use Rattle.nd_trace.specs.Events.{event_of}
use Rattle.nd_session.proofs.session.Last.{IsLast}
use Rattle.nd_session.proofs.session.changes.last_of.Given as goal

abbrev pub invariant-loop-event : goal.invariant-loop-event
invariant-loop-event l = IsLast l.name (map event_of (take l.event-index l.events)) l.last
