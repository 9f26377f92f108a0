use Rattle.std.proofs.Common.{◌∙◌, ℕ, List, ap}
use Rattle.nd_model.specs.Arrays.Value.{Base}
use Rattle.nd_model.specs.Cells.Running as running
use Rattle.nd_model.specs.Cells.Storing.{having_block}
use Rattle.nd_trace.specs.Traced.{trace_of}
use Rattle.nd_heap.specs.Live.{bytes_at}
use Rattle.nd_session.specs.Session.Live.{live}
use Rattle.nd_session.specs.Session.State.{State}
use Rattle.nd_heap.specs.Values.{base_of}
use Rattle.nd_heap.proofs.Bases.{at_err}
use Rattle.nd_session.proofs.session.Intact.{same_lie, with_bytes, length-written}
use Rattle.nd_session.proofs.session.session.Session.write.Goals as goal

pub returns-clause-after : goal.returns-clause-after
unfolding live
returns-clause-after g c = (λ i. record (trace_of c.self.inside.trace) { names = c.write.ensures.names i; bytes = c.in_ok-write.ensures.ok i; next = c.self.inside.next })
    ∙ ap (λ (s : State). having_block (base_of c.args.base) (g.W.BlockWriter.written c.args.writer ((live s).bytes (base_of c.args.base))) (live s)) c.self.view_is

pub invariant_of-self-2 : goal.invariant_of-self-2
invariant_of-self-2 g c =
    let b = base_of c.args.base in
    let old : Base → List ℕ = bytes_at c.self.inside.heap.blocks in
    let new = g.W.BlockWriter.written c.args.writer (old b) in
    let names = c.self.inside.heap.names in
    same_lie c.self.inside.trace.label c.self.inside.next (running.with_base b new old) (bytes_at c.write.new.self.blocks) names c.write.new.self.names
    c.in_ok-write.ensures.ok c.write.ensures.names
    (with_bytes c.self.inside.trace.label c.self.inside.next old (running.with_base b new old)
    (length-written b new old (g.met.W.BlockWriter.keeps_length c.args.writer (old b))) names c.self.invariant)

pub invariant_of-self : goal.invariant_of-self
invariant_of-self g c = same_lie c.self.inside.trace.label c.self.inside.next (bytes_at c.self.inside.heap.blocks) (bytes_at c.write.new.self.blocks) c.self.inside.heap.names c.write.new.self.names
    (at_err _ _ c.in_err-write.was c.write.ensures.err) c.write.ensures.names c.self.invariant
