use Rattle.std.proofs.Common.{List, map, take, sym, ap, subst, arith}
use Rattle.std.proofs.lemmas.List.{take_all}
use Rattle.nd_model.specs.Cells.Running as running
use Rattle.nd_heap.specs.Values.{entries_of}
use Rattle.nd_trace.specs.Events.{event_of}
use Rattle.nd_session.specs.Session.Order.{IsOrderBehind, names_in}
use Rattle.nd_session.proofs.session.Last.{events_more}
use Rattle.nd_session.proofs.session.Ordering.{behind_more, unit_at}
use Rattle.nd_session.proofs.session.order.note_events.Goals as goal

pub loop-event-init : goal.loop-event-init
loop-event-init c = λ names from. from

pub loop-event-preserved : goal.loop-event-preserved
loop-event-preserved c =
    let es = c.args.events.now in
    let i = c.loop-event.event-index in
    let before = names_in (entries_of unit_at c.args.names.now.entries) in
    let middle = names_in (entries_of unit_at c.loop-event.names.entries) in
    let order = names_in (entries_of unit_at c.note_event.new.names.entries) in
    subst (λ (es : List running.Event). IsOrderBehind before es order) (sym (events_more es i c.event-item.result c.loop-event-test.true c.event-item.is))
    (behind_more before middle order (map event_of (take i es)) (event_of c.event-item.result) c.loop-event.invariant c.in_ok-note_event.ensures)

pub returns : goal.returns
returns c =
    let es = c.args.events.now in
    let before = names_in (entries_of unit_at c.args.names.now.entries) in
    let order = names_in (entries_of unit_at c.loop-event.names.entries) in
    subst (λ (es : List running.Event). IsOrderBehind before es order) (ap (map event_of) (take_all c.loop-event.event-index es (omega (arith, c.loop-event-test.false)))) c.loop-event.invariant
