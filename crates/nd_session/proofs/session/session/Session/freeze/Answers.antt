use Rattle.std.proofs.Common.{◌∙◌, ap, sym, subst, cond, []}
use mathlib.Core.Path.{fun_ext}
use Rattle.nd_model.specs.Cells.Session as model
use Rattle.nd_model.specs.Cells.Running as running
use Rattle.nd_model.specs.Arrays.Value.{Base}
use Rattle.nd_session.specs.Session.Fields.{state_of}
use Rattle.nd_session.specs.Session.Intact.{AllLie}
use Rattle.nd_heap.specs.Loose.{HeapData}
use Rattle.nd_heap.specs.Live.{bytes_at}
use Rattle.nd_session.specs.Session.Live.{live}
use Rattle.nd_session.specs.Session.State.{State}
use Rattle.nd_session.proofs.session.Intact.{with_held}
use Rattle.nd_session.proofs.session.session.Session.freeze.Goals as goal

pub returns-clause-session : goal.returns-clause-session
unfolding live
returns-clause-session c =
    (λ i. record {
      names = c.in_ok-heap.ensures.names i;
      bytes = fun_ext c.in_ok-heap.ensures.bytes i;
    })
    ∙ ap (λ (s : State). model.collected (running.session_of (live s))) c.self.view_is

pub invariant_of-result : goal.invariant_of-result
unfolding live
invariant_of-result c =
    let s = running.session_of (live (state_of c.self.inside)) in
    let bytes = bytes_at c.in_ok-heap.heap.blocks in
    let is = c.next_base-label.ensures ∙ sym (ap (λ (s : State). record { label = (live s).label; number = (live s).next }) c.self.view_is) in
    subst (λ (b : Base). AllLie b.label b.number bytes c.in_ok-heap.heap.names) (sym is)
    (subst (λ (es : model.Names). AllLie c.self.inside.trace.label c.self.inside.next bytes es) (sym c.in_ok-heap.ensures.names)
    (with_held c.self.inside.trace.label c.self.inside.next s bytes c.in_ok-heap.ensures.bytes c.self.invariant))
