use Rattle.std.proofs.Common.{◌≡◌, map, take}
use Rattle.nd_trace.specs.Events.{event_of}
use Rattle.nd_session.proofs.session.change.matching.are_same_events.Given as goal

abbrev pub invariant-loop-i : goal.invariant-loop-i
invariant-loop-i l = map event_of (take l.i l.one) ≡ map event_of (take l.i l.other)
