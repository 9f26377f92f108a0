use Rattle.std.proofs.Common.{◌≡◌, ◌&&◌, None, cond, drop, map, nat_eq}
use Rattle.nd_change.specs.Whole.{binds_in}
use Rattle.nd_model.specs.Arrays.Value as values
use Rattle.nd_session.specs.Session.Now.{entry_now}
use Rattle.nd_session.proofs.session.change.keeping.remove_own.Given as goal
use Rattle.nd_trace.specs.Events.{event_of}

abbrev pub invariant-loop-event : goal.invariant-loop-event
invariant-loop-event g l = (b : values.Base) → cond (nat_eq b.label l.label && binds_in b (map event_of (drop l.event-index l.events))) None (entry_now l.blocks.entries b)
    ≡ cond (nat_eq b.label l.label && binds_in b (map event_of l.events)) None (entry_now l.fn.blocks.entries b)
