use Rattle.std.proofs.Common.{rules, subst, sym}
use Rattle.nd_model.specs.Book.Renaming.{AreDistinct}
use Rattle.nd_model.specs.Book.Book.{labels_of}
use Rattle.nd_model.specs.Book.Notebook.{Answers, CountsRuns, Sheet, book_of}
use Rattle.nd_notebook.specs.Edits.{edit_of}
use Rattle.nd_model.proofs.Books.{any_book_labels}
use Rattle.nd_notebook.proofs.Answered.{leads_first, leads_to_end, leads_on}
use Rattle.nd_notebook.proofs.notebook.Notebook.apply_all.Goals as goal

pub loop-edit-init : goal.loop-edit-init
loop-edit-init c = record {
  leads = leads_first c.args.edits.now _ _ _ (search rules);
  as_many = search rules;
  has_room = search rules;
}

pub loop-edit-preserved : goal.loop-edit-preserved
loop-edit-preserved c = record {
  leads = leads_on c.args.edits.now c.loop-edit.edit-index c.edit-item.result _ _ _ _ _ _ _ _ _ c.loop-edit.invariant.as_many c.loop-edit-test.true c.edit-item.is (subst (λ r. Answers (edit_of c.edit-item.result) c.loop-edit.self r c.apply.new.self) (sym (c.without_places-answer.ensures (edit_of c.edit-item.result))) c.apply.ensures.answered) (subst (λ r. CountsRuns (edit_of c.edit-item.result) c.loop-edit.self r c.loop-edit.meter c.apply.new.meter) (sym (c.without_places-answer.ensures (edit_of c.edit-item.result))) c.apply.ensures.counts) c.push_reserved.ensures.items c.loop-edit.invariant.leads;
  as_many = search rules;
  has_room = search rules;
}

pub returns-clause-answered : goal.returns-clause-answered
returns-clause-answered c = leads_to_end c.args.edits.now _ _ _ _ _ _ c.loop-edit-test.false c.loop-edit.invariant.leads

pub returns-in_err-answers-clause-any_labels : goal.returns-in_err-answers-clause-any_labels
returns-in_err-answers-clause-any_labels c =
    any_book_labels (book_of c.args.self.now) (subst (λ (s : Sheet). AreDistinct (labels_of s.cells)) c.self.view_is c.distinctness.ensures)

pub returns-clause-any_labels : goal.returns-clause-any_labels
returns-clause-any_labels c =
    any_book_labels (book_of c.loop-edit.self) (subst (λ (s : Sheet). AreDistinct (labels_of s.cells)) c.self-2.view_is c.distinctness-2.ensures)
