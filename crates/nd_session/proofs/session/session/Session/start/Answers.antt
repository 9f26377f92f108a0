use Rattle.std.proofs.Common.{◌≡◌, ◌∙◌, ℕ, ap, sym, subst}
use Rattle.nd_model.specs.Cells.Session as model
use Rattle.nd_model.specs.Cells.Running as running
use Rattle.nd_model.specs.Cells.Footprint.{HasNone}
use Rattle.nd_session.specs.Session.Intact.{AllLie}
use Rattle.nd_trace.specs.Seen.{Seen}
use Rattle.nd_trace.specs.Traced.{trace_of}
use Rattle.nd_session.specs.Session.Fields.{state_of}
use Rattle.nd_heap.specs.Live.{bytes_at}
use Rattle.nd_session.specs.Session.Live.{live}
use Rattle.nd_session.specs.Session.State.{State}
use Rattle.nd_session.proofs.session.Intact.{with_start}
use Rattle.nd_session.proofs.session.Sessions.{begun}
use Rattle.nd_session.proofs.session.session.Session.start.Goals as goal

pub returns : goal.returns
unfolding live
returns c =
    begun c.args.label (trace_of c.replace-seen.new.dest) c.collect.new.self.names (bytes_at c.collect.new.self.blocks) (running.session_of (live (state_of c.self.inside)))
    (ap trace_of c.replace-seen.ensures.after ∙ c.new.ensures) c.collect.ensures.names c.collect.ensures.bytes
    ∙ ap (λ (s : State). running.start c.args.label (running.session_of (live s))) c.self.view_is

pub invariant_of-self : goal.invariant_of-self
unfolding live
invariant_of-self c =
    let s = running.session_of (live (state_of c.self.inside)) in
    let label : c.replace-seen.new.dest.label ≡ c.args.label = ap (λ (t : Seen). t.label) c.replace-seen.ensures.after ∙ ap (λ r. r.label) c.new.ensures in
    let none : HasNone c.args.label s = subst (λ (s : State). HasNone c.args.label (running.session_of (live s))) (sym c.self.view_is) c.requires in
    subst (λ (l : ℕ). AllLie l 0 (bytes_at c.collect.new.self.blocks) c.collect.new.self.names) (sym label)
    (subst (λ (ns : model.Names). AllLie c.args.label 0 (bytes_at c.collect.new.self.blocks) ns) (sym c.collect.ensures.names)
    (with_start c.args.label c.self.inside.trace.label c.self.inside.next s (bytes_at c.collect.new.self.blocks) none c.collect.ensures.bytes c.self.invariant))
