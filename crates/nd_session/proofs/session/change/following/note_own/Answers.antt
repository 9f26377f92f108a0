use Rattle.std.proofs.Common.{refl, arith}
use Rattle.std.proofs.lemmas.List.Elements.{All-from_recursion}
use Rattle.std.proofs.lemmas.Option.{slice_get_read}
use Rattle.nd_heap.proofs.Entries.{all_more, all_of}
use Rattle.nd_session.specs.Session.Now.{block_now}
use Rattle.nd_session.specs.Session.Live.{live}
use Rattle.nd_session.proofs.session.Carrying.{IsOwnNow}
use Rattle.nd_session.proofs.session.Gathering.{before_weaker}
use Rattle.nd_session.proofs.session.Standing.{noted_on, noted_same, stays_noted}
use Rattle.nd_session.proofs.session.change.following.note_own.Goals as goal

pub loop-event-init : goal.loop-event-init
loop-event-init c = (noted_same (live c.args.session.now).bytes (block_now c.args.blocks.now.entries), tt)

pub loop-event-preserved : goal.loop-event-preserved
loop-event-preserved c =
    let now = (live c.args.session.now).bytes in
    let was = block_now c.loop-event.blocks.entries in
    let new = block_now c.note_event.new.blocks.entries in
    let es = c.args.events.now in
    let label = c.args.label in
    let step = c.in_ok-note_event.ensures.noted in (
      noted_on now (block_now c.args.blocks.now.entries) was new c.loop-event.invariant.0 step,
      all_more (IsOwnNow label now new) es c.loop-event.event-index c.event-item.result (slice_get_read es _ c.loop-event.event-index c.event-item.result refl c.loop-event-test.true c.event-item.is)
          c.in_ok-note_event.ensures.own
          (before_weaker (IsOwnNow label now was) (IsOwnNow label now new) (λ e h b own bound. stays_noted now was new step b (h b own bound)) es c.loop-event.event-index c.loop-event.invariant.1),
    )

pub returns-clause-all : goal.returns-clause-all
returns-clause-all c =
    let now = (live c.args.session.now).bytes in
    let new = block_now c.loop-event.blocks.entries in
    let es = c.args.events.now in
    All-from_recursion (IsOwnNow c.args.label now new) es (all_of (IsOwnNow c.args.label now new) es c.loop-event.event-index (omega (arith, c.loop-event-test.false)) c.loop-event.invariant.1)
