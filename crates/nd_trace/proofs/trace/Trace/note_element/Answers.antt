use Rattle.std.proofs.Common.{◌∙◌, ◌||◌, ◌&&◌, not, ap, arith}
use Rattle.std.proofs.lemmas.Bool.Decides.{nat_tests}
use Rattle.nd_model.specs.Arrays.View.{element_places}
use Rattle.nd_types.specs.Types.{type_of}
use Rattle.nd_model.specs.Cells.Session.{is_in}
use Rattle.nd_marks.specs.Marks.{holds}
use Rattle.nd_trace.specs.Seen.{Seen, is_written}
use Rattle.nd_heap.specs.Values.{base_of}
use Rattle.nd_trace.proofs.trace.Trace.note_element.Goals as goal

pub use_marks-requires : goal.use_marks-requires
use_marks-requires c = grind (arith, nat_tests, c.if-base-self.false)

pub returns-clause-after : goal.returns-clause-after
returns-clause-after c =
    let b = c.args.base in
    let ps = element_places (type_of c.args.elem.now) c.args.place in
    c.in_ok-use_marks.ensures.after ps (λ p. c.in_ok-marks.ensures p ∙ ap (λ h. h || (is_in p ps && not (holds c.marks_in-written.result.now p))) (c.new.ensures p) ∙ ap (λ e. is_in p ps && not e) (c.marks_in-written.ensures p)
    ∙ ap (λ (t : Seen). is_in p ps && not (is_written t (base_of b) p)) c.self.view_is)
