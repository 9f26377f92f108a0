use Rattle.std.proofs.Common.{◌∙◌, ◌&&◌, None, cond, nat_eq, sym, ap}
use Rattle.nd_heap.specs.Values.{value_of}
use Rattle.nd_model.specs.Arrays.Value.{lies_in}
use Rattle.nd_session.specs.Session.Change.{is_bound_in}
use Rattle.nd_session.specs.Session.Now.{entry_now}
use Rattle.nd_session.proofs.session.Dropping.{none_out}
use Rattle.nd_session.proofs.session.change.keeping.remove_own_event.Goals as goal
use Rattle.nd_trace.specs.Events.{event_of}

pub returns-in-Binds : goal.returns-in-Binds
returns-in-Binds g c = λ b. c.remove_own_value.ensures b ∙ ap (λ t. cond (nat_eq b.label c.args.label && t) None (entry_now c.args.blocks.now.entries b))
    (ap (λ v. lies_in b (value_of v)) c.as_ref.ensures ∙ sym (ap (λ e. is_bound_in b (event_of e)) c.in-Binds.is))

pub returns-in-Unbinds : goal.returns-in-Unbinds
returns-in-Unbinds g c = λ b. none_out (nat_eq b.label c.args.label) (is_bound_in b (event_of c.args.event.now)) (entry_now c.args.blocks.now.entries b) (ap (λ e. is_bound_in b (event_of e)) c.in-Unbinds.is)
