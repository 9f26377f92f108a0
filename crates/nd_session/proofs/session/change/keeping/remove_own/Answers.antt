use Rattle.std.proofs.Common.{◌∙◌, drop, map, nat_eq, ap, arith}
use Rattle.std.proofs.lemmas.List.{drop_all}
use Rattle.nd_change.specs.Whole.{binds_in}
use Rattle.nd_session.specs.Session.Now.{entry_now}
use Rattle.nd_session.proofs.session.Dropping.{none_out, own_more}
use Rattle.nd_session.proofs.session.change.keeping.remove_own.Goals as goal
use Rattle.nd_trace.specs.Events.{event_of}

pub loop-event-preserved : goal.loop-event-preserved
loop-event-preserved g c = λ b.
    own_more c.args.label c.args.events.now c.loop-event.event-index c.event-item.result b (entry_now c.loop-event.blocks.entries b) (entry_now c.remove_own_event.new.blocks.entries b) c.loop-event-test.true c.event-item.is
    (c.remove_own_event.ensures b) ∙ c.loop-event.invariant b

pub returns : goal.returns
returns g c = λ b.
    let es = c.args.events.now in
    let i = c.loop-event.event-index in
    none_out (nat_eq b.label c.args.label) (binds_in b (map event_of (drop i es))) (entry_now c.loop-event.blocks.entries b)
    (ap (λ es. binds_in b (map event_of es)) (drop_all i es (omega (arith, c.loop-event-test.false)))) ∙ c.loop-event.invariant b
