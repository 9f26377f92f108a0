use Rattle.std.proofs.Common.{◌∙◌, ap}
use Rattle.nd_heap.specs.Live.{bytes_at}
use Rattle.nd_trace.specs.Traced.{trace_of}
use Rattle.nd_session.specs.Session.Live.{live}
use Rattle.nd_session.proofs.session.Intact.{same_lie}
use Rattle.nd_session.proofs.session.session.Session.settle_early.Goals as goal

pub returns : goal.returns
unfolding live
returns c = (λ i. record (trace_of c.self.inside.trace) { names = c.settle_early.ensures.names i; bytes = c.settle_early.ensures.bytes i; next = c.self.inside.next }) ∙ ap live c.self.view_is

pub returns-in_err-settle_early : goal.returns-in_err-settle_early
unfolding live
returns-in_err-settle_early c = (λ i. record (trace_of c.self.inside.trace) { names = c.settle_early.ensures.names i; bytes = c.settle_early.ensures.bytes i; next = c.self.inside.next }) ∙ ap live c.self.view_is

pub invariant_of-self : goal.invariant_of-self
invariant_of-self c = same_lie c.self.inside.trace.label c.self.inside.next (bytes_at c.self.inside.heap.blocks) (bytes_at c.settle_early.new.self.blocks) c.self.inside.heap.names c.settle_early.new.self.names
    c.settle_early.ensures.bytes c.settle_early.ensures.names c.self.invariant

pub invariant_of-self-2 : goal.invariant_of-self-2
invariant_of-self-2 c = same_lie c.self.inside.trace.label c.self.inside.next (bytes_at c.self.inside.heap.blocks) (bytes_at c.settle_early.new.self.blocks) c.self.inside.heap.names c.settle_early.new.self.names
    c.settle_early.ensures.bytes c.settle_early.ensures.names c.self.invariant
