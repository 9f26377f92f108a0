use Rattle.std.proofs.Common.{◌∙◌, ap, subst, sym}
use Rattle.std.specs.Rc.{rc_str_bytes}
use Rattle.nd_model.specs.Cells.Running as running
use Rattle.nd_trace.specs.Seen.{having_event}
use Rattle.nd_trace.specs.Traced.{trace_of}
use Rattle.nd_heap.specs.Live.{bytes_at}
use Rattle.nd_session.specs.Session.Live.{live}
use Rattle.nd_session.specs.Session.State.{State}
use Rattle.nd_session.specs.Session.Intact.{AllLie}
use Rattle.nd_heap.proofs.Bases.{at_err, on_err}
use Rattle.nd_session.proofs.session.Intact.{same_lie, with_unbound}
use Rattle.nd_session.proofs.session.Sessions.{unbound_over, stayed_over}
use Rattle.nd_session.proofs.session.session.Session.unbind.Goals as goal

pub returns-clause-after : goal.returns-clause-after
unfolding live
returns-clause-after c =
    let noted = c.note_event.ensures.after ∙ ap (having_event (running.Unbinds (rc_str_bytes c.in_ok-clone.field-0))) c.reserve_event.ensures.same in
    ap (λ bs. record (trace_of c.note_event.new.self) { names = c.unbind.new.self.names; bytes = bytes_at bs; next = c.self.inside.next }) c.unbind.ensures.blocks
    ∙ unbound_over c.args.name.now (rc_str_bytes c.in_ok-clone.field-0)
    (trace_of c.self.inside.trace) (trace_of c.note_event.new.self) c.self.inside.heap.names c.unbind.new.self.names (bytes_at c.self.inside.heap.blocks) c.self.inside.next
    noted c.in_ok-unbind.ensures.ok (c.in_ok-clone.ensures.cases ∙ c.in_ok-unbound.ensures.ok)
    ∙ ap (λ (s : State). running.done (running.Unbinding c.args.name.now) (live s)) c.self.view_is

pub returns-in_err-reserve_event-clause-err : goal.returns-in_err-reserve_event-clause-err
unfolding live
returns-in_err-reserve_event-clause-err c = on_err _ (stayed_over (trace_of c.self.inside.trace) (trace_of c.reserve_event.new.self) c.self.inside.heap.names (bytes_at c.self.inside.heap.blocks) c.self.inside.next
    c.reserve_event.ensures.same
    ∙ ap (λ (s : State). live s) c.self.view_is)

pub returns-in_err-unbind-clause-err : goal.returns-in_err-unbind-clause-err
unfolding live
returns-in_err-unbind-clause-err c = on_err _ ((λ i. record (c.reserve_event.ensures.same i) {
  names = at_err _ _ c.in_err-unbind.was c.unbind.ensures.err i;
  bytes = bytes_at (c.unbind.ensures.blocks i);
  next = c.self.inside.next;
}) ∙ ap (λ (s : State). live s) c.self.view_is)

pub invariant_of-self-2 : goal.invariant_of-self-2
invariant_of-self-2 c =
    subst (λ bs. AllLie c.note_event.new.self.label c.self.inside.next (bytes_at bs) c.unbind.new.self.names) (sym c.unbind.ensures.blocks)
    (with_unbound c.self.inside.trace.label c.note_event.new.self.label c.self.inside.next (bytes_at c.self.inside.heap.blocks) c.args.name.now
    c.self.inside.heap.names c.unbind.new.self.names (c.note_event.ensures.label ∙ c.reserve_event.ensures.label) c.in_ok-unbind.ensures.ok c.self.invariant)
