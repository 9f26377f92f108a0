use Rattle.std.proofs.Common.{◌≡◌, ◌∙◌, Option, option_map, refl, ap}
use Rattle.nd_model.specs.Arrays.Value as values
use Rattle.nd_model.specs.Cells.Session as model
use Rattle.nd_model.specs.Cells.Running as running
use Rattle.nd_trace.specs.Traced.{trace_of}
use Rattle.nd_heap.specs.Live.{bytes_at}
use Rattle.nd_heap.specs.Values.{value_of}
use Rattle.nd_heap.proofs.Bases.{at_err, on_err}
use Rattle.nd_session.specs.Session.Live.{live}
use Rattle.nd_session.specs.Session.State.{State}
use Rattle.nd_session.specs.Session.Fields.{state_of}
use Rattle.nd_session.proofs.session.Sessions.{lent, looked_up, stayed_over}
use Rattle.nd_session.proofs.session.session.Session.lookup.Goals as goal

pub returns-clause-value : goal.returns-clause-value
unfolding live
returns-clause-value c = c.in_ok-value.ensures ∙ c.find.ensures ∙ ap (λ (s : State). model.lookup c.args.name.now s.names) c.self.view_is

pub returns-clause-after : goal.returns-clause-after
unfolding live
returns-clause-after c =
    let n = c.args.name.now in
    let o : Option values.Value = option_map (λ v. value_of v.now) c.as_ref.result in
    let r = live (state_of c.self.inside) in
    looked_up n o r (running.having_read (running.is_name n) r) _ refl
    (ap (λ (r : running.Running). record r { names = c.self.inside.heap.names; bytes = bytes_at c.self.inside.heap.blocks; next = c.self.inside.next }) c.in_ok-note_lookup.ensures.after)
    (lent c.as_ref.result ∙ ap (option_map value_of) c.as_ref.ensures.value ∙ c.in_ok-value.ensures ∙ c.find.ensures)
    ∙ ap (λ (s : State). running.after (running.Lookup n) (live s)) c.self.view_is

pub returns-in_err-note_lookup-clause-err : goal.returns-in_err-note_lookup-clause-err
unfolding live
returns-in_err-note_lookup-clause-err c = on_err _ (stayed_over (trace_of c.self.inside.trace) (trace_of c.note_lookup.new.self) c.self.inside.heap.names (bytes_at c.self.inside.heap.blocks) c.self.inside.next
    (at_err _ _ c.in_err-note_lookup.was c.note_lookup.ensures.err)
    ∙ ap (λ (s : State). live s) c.self.view_is)
