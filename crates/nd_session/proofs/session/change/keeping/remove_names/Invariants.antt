use Rattle.std.proofs.Common.{◌≡◌, ℕ, List, None, cond, drop, map}
use Rattle.nd_model.specs.Cells.Running.{is_touched}
use Rattle.nd_session.specs.Session.Now.{value_now}
use Rattle.nd_session.proofs.session.change.keeping.remove_names.Given as goal
use Rattle.nd_trace.specs.Events.{event_of}

abbrev pub invariant-loop-event : goal.invariant-loop-event
invariant-loop-event l = (n : List ℕ) → cond (is_touched n (map event_of (drop l.event-index l.events))) None (value_now l.names.entries n)
    ≡ cond (is_touched n (map event_of l.events)) None (value_now l.fn.names.entries n)
