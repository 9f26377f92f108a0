use Rattle.std.proofs.Common.{◌∙◌, ◌||◌, ◌&&◌, not, sym, ap}
use Rattle.nd_model.specs.Arrays.View.{element_places}
use Rattle.nd_types.specs.Types.{type_of}
use Rattle.nd_model.specs.Cells.Session.{is_in}
use Rattle.nd_marks.specs.Marks.{holds}
use Rattle.nd_trace.proofs.Traces.{and_true}
use Rattle.nd_trace.proofs.trace.Trace.write_element.Goals as goal

pub returns-clause-after : goal.returns-clause-after
returns-clause-after c =
    let ps = element_places (type_of c.args.elem.now) c.args.place in
    c.in_ok-write_marks.ensures.after ps (λ p. c.in_ok-marks.ensures p ∙ ap (λ h. h || (is_in p ps && not (holds c.new-nothing.result p))) (c.new.ensures p) ∙ ap (λ e. is_in p ps && not e) (c.new-nothing.ensures p) ∙ sym (and_true (is_in p ps)))
