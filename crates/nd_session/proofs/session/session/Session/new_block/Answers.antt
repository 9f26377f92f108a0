use Rattle.std.proofs.Common.{◌∙◌, ◌+◌, false, refl, sym, ap}
use Rattle.nd_model.specs.Cells.Running as running
use Rattle.nd_session.specs.Session.Fields.{state_of}
use Rattle.nd_trace.specs.Traced.{trace_of}
use Rattle.nd_heap.specs.Live.{bytes_at}
use Rattle.nd_session.specs.Session.Live.{live}
use Rattle.nd_session.specs.Session.State.{State}
use Rattle.nd_heap.proofs.Bases.{at_err}
use Rattle.nd_session.proofs.session.Intact.{same_lie, with_block}
use Rattle.nd_session.proofs.session.Sessions.{read_none}
use Rattle.nd_session.proofs.session.session.Session.new_block.Goals as goal

pub returns-clause-after : goal.returns-clause-after
unfolding live
returns-clause-after c =
    let new = c.next_base-base.ensures ∙ sym (ap (λ (s : State). record { label = (live s).label; number = (live s).next }) c.self.view_is) in
    (λ i. record (trace_of c.self.inside.trace) { names = c.put_block.ensures.names i; bytes = c.in_ok-put_block.ensures.ok i; next = c.self.inside.next + 1 })
    ∙ (λ i. record (trace_of c.self.inside.trace) { names = c.self.inside.heap.names; bytes = running.with_base (new i) (c.in_ok-shared.ensures.ok i) (bytes_at c.self.inside.heap.blocks); next = c.self.inside.next + 1 })
    ∙ ap (running.made (running.Make c.args.block)) (read_none (λ k. false) (live (state_of c.self.inside)) (λ k. refl))
    ∙ ap (λ (s : State). running.after (running.Make c.args.block) (live s)) c.self.view_is

pub invariant_of-self-2 : goal.invariant_of-self-2
unfolding live
invariant_of-self-2 c =
    let label = c.self.inside.trace.label in
    let next = c.self.inside.next in
    let old = bytes_at c.self.inside.heap.blocks in
    let names = c.self.inside.heap.names in
    let new = c.next_base-base.ensures ∙ sym (ap (λ (s : State). record { label = (live s).label; number = (live s).next }) c.self.view_is) in
    same_lie label (next + 1) (running.with_base (record { label = label; number = next }) c.args.block old) (bytes_at c.put_block.new.self.blocks) names c.put_block.new.self.names
    (c.in_ok-put_block.ensures.ok ∙ (λ i. running.with_base (new i) (c.in_ok-shared.ensures.ok i) old)) c.put_block.ensures.names
    (with_block label next old c.args.block names c.self.invariant)

pub invariant_of-self : goal.invariant_of-self
invariant_of-self c = same_lie c.self.inside.trace.label c.self.inside.next (bytes_at c.self.inside.heap.blocks) (bytes_at c.put_block.new.self.blocks) c.self.inside.heap.names c.put_block.new.self.names
    (at_err _ _ c.in_err-put_block.was c.put_block.ensures.err) c.put_block.ensures.names c.self.invariant
