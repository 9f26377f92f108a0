use Rattle.std.proofs.Common.{◌∙◌, ap}
use Rattle.nd_model.specs.Cells.Running as running
use Rattle.std.specs.List.{flat_map}
use Rattle.nd_model.specs.Arrays.View.{element_places}
use Rattle.nd_types.specs.Types.{type_of}
use Rattle.nd_trace.specs.Traced.{trace_of}
use Rattle.nd_heap.specs.Live.{bytes_at}
use Rattle.nd_session.specs.Session.Live.{live}
use Rattle.nd_session.specs.Session.State.{State}
use Rattle.nd_heap.specs.Values.{base_of}
use Rattle.nd_heap.proofs.Bases.{at_err, on_err}
use Rattle.nd_session.proofs.session.Sessions.{noted_over, stayed_over}
use Rattle.nd_session.proofs.session.session.Session.mark_used_elements.Goals as goal

pub returns-clause-after : goal.returns-clause-after
unfolding live
returns-clause-after c = noted_over (running.is_byte (base_of c.args.base) (flat_map (element_places (type_of c.args.elem.now)) c.args.places.now)) (trace_of c.self.inside.trace) (trace_of c.note_elements.new.self) c.self.inside.heap.names (bytes_at c.self.inside.heap.blocks) c.self.inside.next c.in_ok-note_elements.ensures.after
    ∙ ap (λ (s : State). running.after (running.Use (base_of c.args.base) (flat_map (element_places (type_of c.args.elem.now)) c.args.places.now)) (live s)) c.self.view_is

pub returns-in_err-note_elements-clause-err : goal.returns-in_err-note_elements-clause-err
unfolding live
returns-in_err-note_elements-clause-err c = on_err _ (stayed_over (trace_of c.self.inside.trace) (trace_of c.note_elements.new.self) c.self.inside.heap.names (bytes_at c.self.inside.heap.blocks) c.self.inside.next
    (at_err _ _ c.in_err-note_elements.was c.note_elements.ensures.err)
    ∙ ap (λ (s : State). live s) c.self.view_is)
