use Rattle.std.proofs.Common.{Ok, sym, ap, subst, ◌∙◌}
use Rattle.nd_model.specs.Making.Operand.{ACopy}
use Rattle.nd_model.specs.Cells.Refusing.{◌>>=◌}
use Rattle.nd_session.specs.Session.Live.{live}
use Rattle.nd_operation.specs.Refusals.Ends.{Makes}
use Rattle.nd_operation.specs.Refusals.Faults.{fault_of}
use Rattle.nd_eval.specs.Choosing.Indexing.{chosen_of}
use Rattle.nd_eval.proofs.choosing.Indexing.{chooses_basic, chooses_elements, copy_stops, refused_items}
use Rattle.nd_eval.proofs.choosing.indexes.choose_items.Goals as goal

pub returns-in-Some-clause-choice : goal.returns-in-Some-clause-choice
returns-in-Some-clause-choice c = refused_items (live c.args.session.now).bytes c.args.items.now c.args.view.now (fault_of c.in-Some.fault) (sym c.in-Some.ensures)

pub returns-in_err-selection-clause-choice : goal.returns-in_err-selection-clause-choice
returns-in_err-selection-clause-choice c =
    copy_stops (live c.args.session.now).bytes c.args.items.now c.args.view.now (sym c.has_array.ensures ∙ c.if-has_array.true) c.in_err-selection.field-0.0 _ c.from_residual.ensures.1 c.in_err-selection.ensures.elements

pub returns-then-has_array-clause-choice : goal.returns-then-has_array-clause-choice
returns-then-has_array-clause-choice c =
    chooses_elements (live c.args.session.now).bytes c.args.items.now c.args.view.now (sym c.has_array.ensures ∙ c.if-has_array.true)
    ∙ ap (λ m. m >>= λ h. Ok (ACopy h)) c.in_ok-selection.ensures.elements

pub returns-clause-choice : goal.returns-clause-choice
returns-clause-choice c =
    subst (Makes chosen_of c.choose_basic.result) (sym (chooses_basic (live c.args.session.now).bytes c.args.items.now c.args.view.now (sym c.has_array.ensures ∙ c.if-has_array.false))) c.choose_basic.ensures.choice
