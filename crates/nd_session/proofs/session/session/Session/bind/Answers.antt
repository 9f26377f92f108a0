use Rattle.std.proofs.Common.{◌≡◌, ◌∙◌, ap, subst, sym, string_bytes}
use Rattle.std.specs.Rc.{rc_str_bytes}
use Rattle.nd_model.specs.Cells.Running as running
use Rattle.nd_trace.specs.Seen.{having_event}
use Rattle.nd_trace.specs.Traced.{trace_of}
use Rattle.nd_heap.specs.Live.{bytes_at}
use Rattle.nd_session.specs.Session.Live.{live}
use Rattle.nd_session.specs.Session.State.{State}
use Rattle.nd_session.specs.Session.Intact.{AllLie}
use Rattle.nd_heap.specs.Values.{value_of}
use Rattle.nd_session.specs.Session.Fields.{state_of}
use Rattle.nd_heap.proofs.Bases.{at_err, on_err}
use Rattle.nd_session.proofs.session.Intact.{lies_there, with_bound}
use Rattle.nd_session.proofs.session.Sessions.{bound_over, stayed_over}
use Rattle.nd_session.proofs.session.session.Session.bind.Goals as goal

pub returns-clause-after : goal.returns-clause-after
unfolding live
returns-clause-after c =
    let t = c.self.inside.trace in
    let noted = c.note_event.ensures.after ∙ ap (having_event (running.Binds (rc_str_bytes c.in_ok-clone.field-0) (value_of c.in_ok-clone-2.field-0.value))) c.reserve_event.ensures.same in
    ap (λ bs. record (trace_of c.note_event.new.self) { names = c.bind.new.self.names; bytes = bytes_at bs; next = c.self.inside.next }) c.bind.ensures.blocks
    ∙ bound_over (string_bytes c.args.name) (rc_str_bytes c.in_ok-clone.field-0) (rc_str_bytes c.in_ok-entry.entry) (value_of c.args.value) (value_of c.in_ok-clone-2.field-0.value) (value_of c.in_ok-kept.kept.value)
    (trace_of t) (trace_of c.note_event.new.self) c.self.inside.heap.names c.bind.new.self.names (bytes_at c.self.inside.heap.blocks) c.self.inside.next
    noted c.in_ok-bind.ensures.ok (c.in_ok-clone.ensures.cases ∙ c.in_ok-bound.ensures.ok) (ap value_of (c.in_ok-clone-2.ensures.cases ∙ c.in_ok-kept.ensures.ok)) (c.in_ok-entry.ensures.cases ∙ c.in_ok-bound.ensures.ok) (ap value_of c.in_ok-kept.ensures.ok)
    ∙ ap (λ (s : State). running.done (running.Binding (string_bytes c.args.name) (value_of c.args.value)) (live s)) c.self.view_is

pub returns-in_err-reserve_event-clause-err : goal.returns-in_err-reserve_event-clause-err
unfolding live
returns-in_err-reserve_event-clause-err c = on_err _ (stayed_over (trace_of c.self.inside.trace) (trace_of c.reserve_event.new.self) c.self.inside.heap.names (bytes_at c.self.inside.heap.blocks) c.self.inside.next
    c.reserve_event.ensures.same
    ∙ ap (λ (s : State). live s) c.self.view_is)

pub returns-in_err-bind-clause-err : goal.returns-in_err-bind-clause-err
unfolding live
returns-in_err-bind-clause-err c = on_err _ ((λ i. record (c.reserve_event.ensures.same i) {
  names = at_err _ _ c.in_err-bind.was c.bind.ensures.err i;
  bytes = bytes_at (c.bind.ensures.blocks i);
  next = c.self.inside.next;
}) ∙ ap (λ (s : State). live s) c.self.view_is)

pub invariant_of-self-2 : goal.invariant_of-self-2
invariant_of-self-2 c =
    let bytes = bytes_at c.self.inside.heap.blocks in
    let same : value_of c.in_ok-kept.kept.value ≡ value_of c.args.value = ap value_of c.in_ok-kept.ensures.ok in
    subst (λ bs. AllLie c.note_event.new.self.label c.self.inside.next (bytes_at bs) c.bind.new.self.names) (sym c.bind.ensures.blocks)
    (with_bound c.self.inside.trace.label c.note_event.new.self.label c.self.inside.next bytes (rc_str_bytes c.in_ok-entry.entry) (value_of c.in_ok-kept.kept.value) (value_of c.args.value)
    c.self.inside.heap.names c.bind.new.self.names (c.note_event.ensures.label ∙ c.reserve_event.ensures.label) same c.in_ok-bind.ensures.ok
    (lies_there (state_of c.self.inside) c.args.self.now c.self.view_is (value_of c.args.value) c.requires) c.self.invariant)
