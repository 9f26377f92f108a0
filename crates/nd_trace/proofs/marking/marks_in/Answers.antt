use Rattle.std.proofs.Common.{◌∙◌, ap, sym}
use Rattle.nd_trace.proofs.Places.{found_marks, found_marked}
use Rattle.nd_trace.proofs.marking.marks_in.Goals as goal

pub returns-in-Some : goal.returns-in-Some
returns-in-Some c = λ p. sym (found_marked c.args.base c.args.marked.now.entries p ∙ ap (λ o. found_marks o p) (sym c.in-Some.ensures.value))

pub returns-in-None : goal.returns-in-None
returns-in-None c = λ p. c.requires p ∙ sym (found_marked c.args.base c.args.marked.now.entries p ∙ ap (λ o. found_marks o p) (sym c.in-None.ensures.value))
