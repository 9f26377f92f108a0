use Rattle.std.proofs.Common.{◌≤◌, sym, subst}
use Rattle.nd_heap.specs.Live.{bytes_at}
use Rattle.nd_session.specs.Session.Live.{live}
use Rattle.nd_session.specs.Session.State.{State}
use Rattle.nd_session.proofs.session.Intact.{with_next}
use Rattle.nd_session.proofs.session.session.Session.skip_to.Goals as goal

pub invariant_of-self : goal.invariant_of-self
unfolding live
invariant_of-self c =
    with_next c.self.inside.trace.label c.self.inside.next c.args.number (bytes_at c.self.inside.heap.blocks) c.self.inside.heap.names
    (subst (λ (s : State). (live s).next ≤ c.args.number) (sym c.self.view_is) c.requires) c.self.invariant
