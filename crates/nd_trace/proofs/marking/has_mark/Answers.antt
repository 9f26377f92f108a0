use Rattle.std.proofs.Common.{◌∙◌, ap, sym}
use Rattle.nd_trace.proofs.Places.{found_marks, found_marked}
use Rattle.nd_trace.proofs.marking.has_mark.Goals as goal

pub returns-in-Some : goal.returns-in-Some
returns-in-Some c = c.holds.ensures ∙ sym (found_marked c.args.base c.args.marked.now.entries c.args.place ∙ ap (λ o. found_marks o c.args.place) (sym c.in-Some.ensures.value))

pub returns-in-None : goal.returns-in-None
returns-in-None c = sym (found_marked c.args.base c.args.marked.now.entries c.args.place ∙ ap (λ o. found_marks o c.args.place) (sym c.in-None.ensures.value))
