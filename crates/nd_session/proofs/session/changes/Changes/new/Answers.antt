use Rattle.std.proofs.Common.{◌∙◌, ap}
use Rattle.nd_session.specs.Session.Fields.{effects_over}
use Rattle.nd_session.specs.Session.Live.{live}
use Rattle.nd_trace.specs.Seen.{Seen}
use Rattle.nd_session.specs.Session.Listed.{seen_of}
use Rattle.nd_session.specs.Session.State.{State}
use Rattle.nd_session.proofs.session.changes.Changes.new.Goals as goal

pub returns-clause-label : goal.returns-clause-label
unfolding live
returns-clause-label c = c.in_ok-changes.ensures.label ∙ ap (λ (t : Seen). t.label) c.seen.ensures

pub returns-clause-next : goal.returns-clause-next
unfolding live
returns-clause-next c = c.in_ok-changes.ensures.next ∙ ap (λ (s : State). (live s).next) c.session.view_is

pub returns-clause-events : goal.returns-clause-events
unfolding live
returns-clause-events c = c.in_ok-changes.ensures.events ∙ ap (λ (t : Seen). t.events) c.seen.ensures

pub returns-clause-bases : goal.returns-clause-bases
unfolding live
returns-clause-bases c = λ b. c.in_ok-changes.ensures.bases b
    ∙ ap (λ (t : Seen). (effects_over t c.session.inside.heap.blocks).bases b) c.seen.ensures
    ∙ ap (λ (s : State). (effects_over (seen_of c.args.session.now) s.blocks).bases b) c.session.view_is

pub returns-clause-writes : goal.returns-clause-writes
unfolding live
returns-clause-writes c = λ b p. c.in_ok-changes.ensures.writes b p
    ∙ ap (λ (t : Seen). (effects_over t c.session.inside.heap.blocks).writes b p) c.seen.ensures
    ∙ ap (λ (s : State). (effects_over (seen_of c.args.session.now) s.blocks).writes b p) c.session.view_is
