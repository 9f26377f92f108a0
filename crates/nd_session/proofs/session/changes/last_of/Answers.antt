use Rattle.std.proofs.Common.{◌≡◌, Some, List, true, false, bytes_eq, map, take, subst, sym, ap, ◌∙◌}
use Rattle.nd_model.specs.Cells.Running as running
use Rattle.nd_trace.specs.Events.{event_of, name_of_event}
use Rattle.nd_session.proofs.session.Last.{IsLast, events_more, last_is, last_stays}
use Rattle.nd_session.proofs.session.changes.last_of.Goals as goal
use Rattle.nd_session.proofs.session.changes.last_of.Goals.{then-eq, else-eq}

pub loop-event-preserved : goal.loop-event-preserved
loop-event-preserved c =
    let one = events_more c.args.events.now c.loop-event.event-index c.event-item.result c.loop-event-test.true c.event-item.is in
    elim c.if-eq.branch [
      | then-eq w ↦
          let same : bytes_eq c.args.name.now (name_of_event (event_of c.event-item.result)) ≡ true
          = ap (bytes_eq c.args.name.now) (sym (c.as_str.ensures.value ∙ c.name.ensures)) ∙ sym c.eq.ensures ∙ w.if-eq.true in
          rw w.last-is (subst (λ (es : List running.Event). IsLast c.args.name.now es (Some w.binds.result)) (sym one)
          (last_is c.args.name.now (map event_of (take c.loop-event.event-index c.args.events.now)) (event_of c.event-item.result) c.loop-event.last w.binds.result same w.binds.ensures))
      | else-eq w ↦
          let other : bytes_eq c.args.name.now (name_of_event (event_of c.event-item.result)) ≡ false
          = ap (bytes_eq c.args.name.now) (sym (c.as_str.ensures.value ∙ c.name.ensures)) ∙ sym c.eq.ensures ∙ w.if-eq.false in
          rw w.last-is (subst (λ (es : List running.Event). IsLast c.args.name.now es c.loop-event.last) (sym one)
          (last_stays c.args.name.now (map event_of (take c.loop-event.event-index c.args.events.now)) (event_of c.event-item.result) c.loop-event.last other c.loop-event.invariant))
    ]
