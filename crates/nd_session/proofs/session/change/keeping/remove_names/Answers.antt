use Rattle.std.proofs.Common.{◌∙◌, None, cond, bytes_eq, map, sym, ap, arith}
use Rattle.std.proofs.lemmas.List.{drop_all}
use Rattle.nd_model.specs.Cells.Running.{is_touched}
use Rattle.nd_session.specs.Session.Now.{value_now}
use Rattle.nd_session.specs.Session.Reading.{value_at}
use Rattle.nd_session.proofs.session.Dropping.{dropped_more}
use Rattle.nd_session.proofs.session.Standing.{name_removed}
use Rattle.nd_session.proofs.session.change.keeping.remove_names.Goals as goal
use Rattle.nd_trace.specs.Events.{event_of}

pub loop-event-preserved : goal.loop-event-preserved
loop-event-preserved c = λ n.
    let es = c.args.events.now in
    let i = c.loop-event.event-index in
    let name = c.as_str.result.now in
    let cur = c.loop-event.names.entries in
    let is = c.as_str.ensures.value ∙ c.name.ensures in
    dropped_more es i c.event-item.result n (value_now cur n) (value_now c.swap_remove.new.self.entries n) c.loop-event-test.true c.event-item.is
    (name_removed value_at name cur c.swap_remove.new.self.entries c.swap_remove.ensures.updates.1 c.swap_remove.ensures.updates.3 n ∙ ap (λ m. cond (bytes_eq n m) None (value_now cur n)) is)
    ∙ c.loop-event.invariant n

pub returns : goal.returns
returns c = λ n. ap (λ es. cond (is_touched n (map event_of es)) None (value_now c.loop-event.names.entries n)) (sym (drop_all c.loop-event.event-index c.args.events.now (omega (arith, c.loop-event-test.false)))) ∙ c.loop-event.invariant n
