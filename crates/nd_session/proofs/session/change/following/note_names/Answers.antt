use Rattle.std.proofs.Common.{ℕ, List, Option, refl, arith}
use Rattle.std.proofs.lemmas.List.Elements.{All-from_recursion}
use Rattle.std.proofs.lemmas.Option.{slice_get_read}
use Rattle.nd_heap.proofs.Entries.{all_more, all_of}
use Rattle.nd_model.specs.Arrays.Value as values
use Rattle.nd_model.specs.Cells.Session.{lookup}
use Rattle.nd_session.specs.Session.Now.{value_now}
use Rattle.nd_session.specs.Session.Live.{live}
use Rattle.nd_session.proofs.session.Carrying.{IsNameNow, set_now}
use Rattle.nd_session.proofs.session.Gathering.{before_weaker}
use Rattle.nd_session.proofs.session.Standing.{name_noted, noted_on, noted_same, stays_noted}
use Rattle.nd_session.proofs.session.change.following.note_names.Goals as goal
use Rattle.nd_trace.specs.Events.{event_of, name_of_event}

pub loop-event-init : goal.loop-event-init
loop-event-init c = (noted_same (λ n. lookup n (live c.args.session.now).names) (value_now c.args.names.now.entries), tt)

pub loop-event-preserved : goal.loop-event-preserved
loop-event-preserved c =
    let now : List ℕ → Option values.Value = λ n. lookup n (live c.args.session.now).names in
    let was = value_now c.loop-event.names.entries in
    let new = value_now c.note_name.new.names.entries in
    let es = c.args.events.now in
    let step = name_noted now was new _ c.in_ok-note_name.ensures in (
      noted_on now (value_now c.args.names.now.entries) was new c.loop-event.invariant.0 step,
      all_more (IsNameNow now new) es c.loop-event.event-index c.event-item.result (slice_get_read es _ c.loop-event.event-index c.event-item.result refl c.loop-event-test.true c.event-item.is)
          (set_now now was new _ _ c.name.ensures c.in_ok-note_name.ensures)
          (before_weaker (IsNameNow now was) (IsNameNow now new) (λ e. stays_noted now was new step (name_of_event (event_of e))) es c.loop-event.event-index c.loop-event.invariant.1),
    )

pub returns-clause-all : goal.returns-clause-all
returns-clause-all c =
    let now : List ℕ → Option values.Value = λ n. lookup n (live c.args.session.now).names in
    let new = value_now c.loop-event.names.entries in
    let es = c.args.events.now in
    All-from_recursion (IsNameNow now new) es (all_of (IsNameNow now new) es c.loop-event.event-index (omega (arith, c.loop-event-test.false)) c.loop-event.invariant.1)
