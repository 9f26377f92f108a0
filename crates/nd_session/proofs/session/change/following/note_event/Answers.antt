use Rattle.std.proofs.Common.{◌∙◌, ap, sym}
use Rattle.nd_heap.specs.Values.{value_of}
use Rattle.nd_model.specs.Arrays.Value.{lies_in}
use Rattle.nd_session.specs.Session.Change.{is_bound_in}
use Rattle.nd_session.specs.Session.Live.{live}
use Rattle.nd_session.specs.Session.Now.{block_now}
use Rattle.nd_session.proofs.session.Agreeing.{false_true}
use Rattle.nd_session.proofs.session.Standing.{noted_same}
use Rattle.nd_session.proofs.session.change.following.note_event.Goals as goal
use Rattle.nd_trace.specs.Events.{event_of}

pub returns-in_ok-note_value-in-Binds-clause-own : goal.returns-in_ok-note_value-in-Binds-clause-own
returns-in_ok-note_value-in-Binds-clause-own c = λ b own bound. c.in_ok-note_value-in-Binds.ensures.own b own
    (ap (λ v. lies_in b (value_of v)) c.as_ref.ensures ∙ sym (ap (λ e. is_bound_in b (event_of e)) c.in-Binds.is) ∙ bound)

pub returns-in-Unbinds-clause-noted : goal.returns-in-Unbinds-clause-noted
returns-in-Unbinds-clause-noted c = noted_same (live c.args.session.now).bytes (block_now c.args.blocks.now.entries)

pub returns-in-Unbinds-clause-own : goal.returns-in-Unbinds-clause-own
returns-in-Unbinds-clause-own c = λ b own bound. false_true (sym (ap (λ e. is_bound_in b (event_of e)) c.in-Unbinds.is) ∙ bound)
