use Rattle.std.proofs.Common.{◌≡◌, ◌∙◌, ℕ, ap, sym, subst}
use Rattle.nd_model.specs.Cells.Session as model
use Rattle.nd_model.specs.Cells.Running as running
use Rattle.nd_model.specs.Cells.Sound.{IsSound}
use Rattle.nd_session.specs.Session.Changes.{ChangesData, changed, going_on}
use Rattle.nd_session.specs.Session.Fields.{state_of}
use Rattle.nd_session.specs.Session.Intact.{AllLie}
use Rattle.nd_heap.specs.Live.{bytes_at}
use Rattle.nd_session.specs.Session.Live.{live}
use Rattle.nd_session.specs.Session.State.{State}
use Rattle.nd_trace.specs.Seen.{Seen}
use Rattle.nd_trace.specs.Traced.{trace_of}
use Rattle.nd_session.proofs.session.Intact.{with_changes}
use Rattle.nd_session.proofs.session.session.Session.redo.Goals as goal

pub invariant_of-self-2 : goal.invariant_of-self-2
unfolding live
invariant_of-self-2 c =
    let names = c.redo.new.heap.names in
    let bytes = bytes_at c.redo.new.heap.blocks in
    let k = c.args.changes.now in
    let s : model.Session = record { names = names; bytes = bytes } in
    let w = changed k (running.session_of (live (state_of c.self.inside))) in
    let is : model.collected s ≡ w = c.in-Ok.ensures.session in
    let sound : IsSound (going_on k (running.session_of (live (state_of c.self.inside)))) = subst (λ (s : State). IsSound (going_on k (running.session_of (live s)))) (sym c.self.view_is) c.requires.sound in
    let label : c.replace-seen.new.dest.label ≡ c.changes.inside.label = ap (λ (t : Seen). t.label) c.replace-seen.ensures.after ∙ ap (λ r. r.label) c.new-2.ensures in
    subst (λ (l : ℕ). AllLie l c.changes.inside.next bytes names) (sym label)
    (subst (λ (k : ChangesData). AllLie k.label k.next bytes names) (sym c.changes.view_is) (with_changes k.label k.next s w is sound))

pub returns-clause-cell : goal.returns-clause-cell
unfolding live
returns-clause-cell c = ap (λ (t : Seen). record (trace_of t) { next = c.changes.inside.next }) c.replace-seen.ensures.after
    ∙ ap (λ (r : running.Running). record r { next = c.changes.inside.next }) c.new-2.ensures
    ∙ ap (λ (k : ChangesData). record (running.start k.label model.no_session) { next = k.next }) c.changes.view_is
