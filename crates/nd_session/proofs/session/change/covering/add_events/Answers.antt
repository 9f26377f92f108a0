use Rattle.std.proofs.Common.{◌∙◌, refl, subst, arith}
use Rattle.std.specs.Prelude.{IsTrue}
use Rattle.std.proofs.lemmas.List.Elements.{All-from_recursion}
use Rattle.std.proofs.lemmas.Option.{slice_get_read}
use Rattle.nd_model.specs.Cells.Running.{Name}
use Rattle.nd_heap.proofs.Entries.{all_more, all_of}
use Rattle.nd_trace.specs.Events.{event_of, name_of_event}
use Rattle.nd_trace.specs.declared.trace.Event.{Event}
use Rattle.nd_session.specs.Session.Filter.{FilterData, covers}
use Rattle.nd_session.proofs.session.Gathering.{before_weaker}
use Rattle.nd_session.proofs.session.Covering.{stays_on}
use Rattle.nd_session.proofs.session.change.covering.add_events.Goals as goal

abbrev IsIn : FilterData → Event → Type 0
IsIn ws e = IsTrue (covers ws (Name (name_of_event (event_of e))))

pub loop-event-init : goal.loop-event-init
loop-event-init c = (tt, λ k h. h)

pub loop-event-preserved : goal.loop-event-preserved
loop-event-preserved c =
    let was = c.loop-event.filter in
    let now = c.add_name.new.self in
    let es = c.args.events.now in (
      all_more (IsIn now) es c.loop-event.event-index c.event-item.result (slice_get_read es _ c.loop-event.event-index c.event-item.result refl c.loop-event-test.true c.event-item.is)
          (subst (λ n. IsTrue (covers now (Name n))) (c.as_str.ensures.value ∙ c.name.ensures) c.add_name.ensures.added)
          (before_weaker (IsIn was) (IsIn now) (λ e. c.add_name.ensures.stays (Name (name_of_event (event_of e)))) es c.loop-event.event-index c.loop-event.invariant.0),
      stays_on c.args.filter.now was now c.loop-event.invariant.1 c.add_name.ensures.stays,
    )

pub returns-clause-added : goal.returns-clause-added
returns-clause-added c =
    let now = c.loop-event.filter in
    let es = c.args.events.now in
    All-from_recursion (IsIn now) es
    (all_of (IsIn now) es c.loop-event.event-index (omega (arith, c.loop-event-test.false)) c.loop-event.invariant.0)
