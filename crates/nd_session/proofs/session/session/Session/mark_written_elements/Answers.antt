use Rattle.std.proofs.Common.{◌∙◌, ap}
use Rattle.std.specs.List.{flat_map}
use Rattle.nd_model.specs.Arrays.View.{element_places}
use Rattle.nd_types.specs.Types.{type_of}
use Rattle.nd_trace.specs.Traced.{trace_of}
use Rattle.nd_heap.specs.Live.{bytes_at}
use Rattle.nd_session.specs.Session.Live.{live}
use Rattle.nd_session.specs.Session.State.{State}
use Rattle.nd_model.specs.Cells.Storing.{having_written}
use Rattle.nd_heap.specs.Values.{base_of}
use Rattle.nd_heap.proofs.Bases.{at_err, on_err}
use Rattle.nd_session.proofs.session.Sessions.{written_over, stayed_over}
use Rattle.nd_session.proofs.session.session.Session.mark_written_elements.Goals as goal

pub returns-clause-after : goal.returns-clause-after
unfolding live
returns-clause-after c = written_over (base_of c.args.base) (flat_map (element_places (type_of c.args.elem.now)) c.args.places.now) (trace_of c.self.inside.trace) (trace_of c.write_elements.new.self) c.self.inside.heap.names (bytes_at c.self.inside.heap.blocks) c.self.inside.next c.in_ok-write_elements.ensures.after
    ∙ ap (λ (s : State). having_written (base_of c.args.base) (flat_map (element_places (type_of c.args.elem.now)) c.args.places.now) (live s)) c.self.view_is

pub returns-in_err-write_elements-clause-err : goal.returns-in_err-write_elements-clause-err
unfolding live
returns-in_err-write_elements-clause-err c = on_err _ (stayed_over (trace_of c.self.inside.trace) (trace_of c.write_elements.new.self) c.self.inside.heap.names (bytes_at c.self.inside.heap.blocks) c.self.inside.next
    (at_err _ _ c.in_err-write_elements.was c.write_elements.ensures.err)
    ∙ ap (λ (s : State). live s) c.self.view_is)
