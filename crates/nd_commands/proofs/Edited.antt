-- Edits that are carried out, with what they count and note.
use Rattle.std.proofs.Common.{◌≡◌, ℕ, List, Option, Some, None, Result, Ok, Err, get_or, refl, sym, subst, ap, ◌∙◌, inl, inr, arith}
use Rattle.std.specs.Prelude.{IfOk, MatchResult, is_none}
use Rattle.nd_model.specs.Book.Book.{Book, Edit, edited}
use Rattle.nd_model.specs.Book.Book as model
use Rattle.nd_model.specs.Book.Stale.{CountsStale}
use Rattle.nd_model.specs.Book.Notebook.{Sheet, Answers, CountsRuns, book_of, edited_sheet}
use Rattle.nd_model.specs.Book.Script.{Edits, Answer, edit_answer}
use Rattle.nd_model.proofs.EditBooks.{edits_book}
use Rattle.nd_script.specs.Lines.Answers.{AnswerState, Pushes}
use Rattle.nd_script.specs.Lines.Counts.{CountsCommand, CountsUnlessRefused}
use Rattle.nd_notebook.specs.declared.edit.EditFault.{EditFault}
use Rattle.nd_notebook.specs.declared.edit.EditFault.TheVariants as edits
use Rattle.nd_notebook.specs.Edits.{RanFor, edit_fault_of, name_in, outcome_of}
use Rattle.nd_schedule.specs.Schedule.Ran.{AreStale}
use Rattle.nd_commands.specs.Answer.{edit_answer_of}
use Rattle.nd_commands.specs.Noted.{CarriedNoted, NotesRan, noted_of}

answered : {X : Type 0} (e : Edit) (old new : Sheet) (r : Result X EditFault) → Answers e old (outcome_of e r) new
    → Answer (Edits e) (book_of old) (edit_answer_of (name_in e) r) (book_of new)
answered e old new (Ok done) h = inl (ap edit_answer (sym h.0), rw h.0 (ap book_of h.1 ∙ edits_book e old))
answered e old new (Err (edits.NoCell at count)) h = inl (ap edit_answer (sym h.0), rw h.0 (ap book_of h.1))
answered e old new (Err edits.TooManyCells) h = inl (ap edit_answer (sym h.0), rw h.0 (ap book_of h.1))
answered e old new (Err edits.CellTooLong) h = inl (ap edit_answer (sym h.0), rw h.0 (ap book_of h.1))
answered e old new (Err edits.BadInputName) h = inl (ap edit_answer (sym h.0), rw h.0 (ap book_of h.1))
answered e old new (Err edits.InputTooLarge) h = inl (ap edit_answer (sym h.0), rw h.0 (ap book_of h.1))
answered e old new (Err edits.NoInputNamed) h = inl (ap edit_answer (sym h.0), rw h.0 (ap book_of h.1))
answered e old new (Err (edits.Memory m)) h = inr (ap is_none h.0, refl, ap book_of h.1)

-- ---- what they count

counts_none : (o : Option model.EditFault) (old new : Book) (before after : ℕ) → o ≡ None → CountsStale old new before after → CountsUnlessRefused o old new before after
counts_none o old new before after is given = rw is given

counts_some : (o : Option model.EditFault) (f : model.EditFault) (old new : Book) (before after : ℕ) → o ≡ Some f → after ≡ before → CountsUnlessRefused o old new before after
counts_some o f old new before after is given = rw is given

counts_stale : (e : Edit) (old : Sheet) (before after : ℕ) → model.refusal e (book_of old) ≡ None → CountsStale (book_of old) (book_of (edited_sheet e old)) before after
    → CountsCommand (Edits e) (book_of old) before after
counts_stale e old before after is given =
    let P : Book → Type 0 = λ b. CountsStale (book_of old) b before after in
    counts_none (model.refusal e (book_of old)) (book_of old) (edited e (book_of old)) before after is (subst P (edits_book e old) given)

counts_edit : {X : Type 0} (e : Edit) (old new : Sheet) (r : Result X EditFault) (before after : ℕ) → Answers e old (outcome_of e r) new
    → CountsRuns e old (outcome_of e r) before after → CountsCommand (Edits e) (book_of old) before after
counts_edit e old new (Ok done) before after h given = counts_stale e old before after h.0 given
counts_edit e old new (Err (edits.NoCell at count)) before after h given = counts_some _ _ _ _ before after h.0 given
counts_edit e old new (Err edits.TooManyCells) before after h given = counts_some _ _ _ _ before after h.0 given
counts_edit e old new (Err edits.CellTooLong) before after h given = counts_some _ _ _ _ before after h.0 given
counts_edit e old new (Err edits.BadInputName) before after h given = counts_some _ _ _ _ before after h.0 given
counts_edit e old new (Err edits.InputTooLarge) before after h given = counts_some _ _ _ _ before after h.0 given
counts_edit e old new (Err edits.NoInputNamed) before after h given = counts_some _ _ _ _ before after h.0 given
counts_edit e old new (Err (edits.Memory m)) before after h given = counts_stale e old before after h.0 given

-- ---- what they note

-- a refusal is another answer
pub refused_is_not_ok : (f : model.EditFault) → edit_answer (Some f) ≡ edit_answer None → ⊥
refused_is_not_ok f same =
    let first : 114 ≡ 111 = ap (λ text. get_or text 0 0) same in
    absurd (omega (arith, first))

-- where an edit is done, the places that it returns are noted, and else none
notes_edit : {X : Type 0} (r : Result X EditFault) (places_in : X → List ℕ) (e : Edit) (old new : Sheet) (before after : ℕ) (held ran : List ℕ) → Answers e old (outcome_of e r) new
    → IfOk r (λ x. RanFor e old (places_in x)) → MatchResult r (λ x. ran ≡ places_in x) (λ f. ran ≡ held)
    → NotesRan (Edits e) (edit_answer_of (name_in e) r) (noted_of old before held) (noted_of new after ran)
notes_edit (Ok x) places_in e old new before after held ran h given same =
    let P : Sheet → List ℕ → Type 0 = λ s places. AreStale (book_of old) (book_of s) places in
    (λ ok. subst (λ places. P new places) (sym same) (subst (λ s. P s (places_in x)) (sym h.1) given), λ refused. absurd (refused refl))
notes_edit (Err f) places_in e old new before after held ran h given same = (λ ok. absurd (refused_is_not_ok (edit_fault_of (name_in e) f) ok), λ refused. same)

pub noted_edit : {X : Type 0} (r : Result X EditFault) (places_in : X → List ℕ) (e : Edit) (old new : Sheet) (before after : ℕ) (held ran : List ℕ) (was now : AnswerState)
    → Answers e old (outcome_of e r) new → CountsRuns e old (outcome_of e r) before after
    → IfOk r (λ x. RanFor e old (places_in x)) → MatchResult r (λ x. ran ≡ places_in x) (λ f. ran ≡ held)
    → Pushes was (edit_answer_of (name_in e) r) now → CarriedNoted (Edits e) (noted_of old before held) was now (noted_of new after ran)
noted_edit r places_in e old new before after held ran was now h counts given same pushed = (
  edit_answer_of (name_in e) r,
  ((answered e old new r h, counts_edit e old new r before after h counts), notes_edit r places_in e old new before after held ran h given same),
  pushed,
)
