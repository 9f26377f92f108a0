use Rattle.std.proofs.Common.{◌∷◌, [], sym, ap, subst}
use Rattle.std.specs.Rc.{rc_str_bytes}
use Rattle.nd_model.specs.Cells.Running as running
use Rattle.nd_heap.specs.Values.{entries_of}
use Rattle.nd_trace.specs.Events.{event_of}
use Rattle.nd_session.specs.Session.Order.{IsOrderBehind, names_in}
use Rattle.nd_session.proofs.session.Ordering.{behind_bind, behind_unbind, unit_at}
use Rattle.nd_session.proofs.session.order.note_event.Goals as goal

pub returns-in_ok-note_bound-in-Binds : goal.returns-in_ok-note_bound-in-Binds
returns-in_ok-note_bound-in-Binds c =
    let xs = entries_of unit_at c.args.names.now.entries in
    let ys = entries_of unit_at c.note_bound.new.names.entries in
    let n = rc_str_bytes c.in-Binds.name in
    subst (λ (e : running.Event). IsOrderBehind (names_in xs) (e ∷ []) (names_in ys)) (sym (ap event_of c.in-Binds.is))
    (behind_bind n n _ tt xs ys (λ i. n) c.in_ok-note_bound-in-Binds.ensures)

pub returns-in-Unbinds : goal.returns-in-Unbinds
returns-in-Unbinds c =
    let xs = entries_of unit_at c.args.names.now.entries in
    let ys = entries_of unit_at c.note_unbound.new.names.entries in
    let n = rc_str_bytes c.in-Unbinds.name in
    subst (λ (e : running.Event). IsOrderBehind (names_in xs) (e ∷ []) (names_in ys)) (sym (ap event_of c.in-Unbinds.is))
    (behind_unbind c.as_str.result.now n xs ys (sym c.as_str.ensures.value) c.note_unbound.ensures)
