-- What a notebook answers and what a script answers are the same.
use Rattle.std.proofs.Common.{◌≡◌, ℕ, true, List, Option, Some, None, Result, Ok, Err, refl, sym, ap, ◌∙◌, inl, inr}
use Rattle.std.specs.Prelude.{is_none, is_ok, IsTrue}
use Rattle.nd_model.specs.Book.Renaming.{Shown}
use Rattle.nd_model.specs.Book.Book.{Book, Edit, EditFault, refusal, edited, unless_refused, after_edit, QueryFault, names_at, value_at}
use Rattle.nd_model.specs.Book.Notebook.{Sheet, book_of, edited_sheet, Answers, Tells}
use Rattle.nd_model.specs.Book.Script.{Edits, Asks, ShowsNames, ShowsValue, with_text, names_answer, value_answer, query_answer, edit_answer, succeeds, Answer}
use Rattle.nd_model.proofs.EditBooks.{edits_book}
use Rattle.nd_exact.specs.Answers.{Reply}
use Rattle.nd_exact.specs.Scripts.{fault_of, EditsAreCommands, CommandsAreEdits, TellsAreCommands}
use Rattle.nd_exact.proofs.Settled.{fails}

-- ---- edits

-- an edit that is refused otherwise
refused_alike : (e : Edit) (old new : Sheet) (f : EditFault) → refusal e (book_of old) ≡ Some f → new ≡ old
    → Answer (Edits e) (book_of old) (edit_answer (Some f)) (book_of new)
refused_alike e old new f is same = inl (ap edit_answer (sym is), ap book_of same ∙ ap (λ o. unless_refused o (edited e (book_of old)) (book_of old)) (sym is))

pub edits_are_commands : EditsAreCommands
edits_are_commands e old new (Ok done) h =
    inl (ap edit_answer (sym h.0), ap book_of h.1 ∙ edits_book e old ∙ ap (λ o. unless_refused o (edited e (book_of old)) (book_of old)) (sym h.0))
edits_are_commands e old new (Err EditFault.OutOfMemory) h = inr (ap is_none h.0, refl, ap book_of h.1)
edits_are_commands e old new (Err (EditFault.NoCell at count)) h = refused_alike e old new (EditFault.NoCell at count) h.0 h.1
edits_are_commands e old new (Err EditFault.TooManyCells) h = refused_alike e old new EditFault.TooManyCells h.0 h.1
edits_are_commands e old new (Err EditFault.CellTooLong) h = refused_alike e old new EditFault.CellTooLong h.0 h.1
edits_are_commands e old new (Err EditFault.BadInputName) h = refused_alike e old new EditFault.BadInputName h.0 h.1
edits_are_commands e old new (Err EditFault.InputTooLarge) h = refused_alike e old new EditFault.InputTooLarge h.0 h.1
edits_are_commands e old new (Err (EditFault.NoInputNamed name)) h = refused_alike e old new (EditFault.NoInputNamed name) h.0 h.1

none_there : (o : Option EditFault) → IsTrue (is_none o) → o ≡ None
none_there None h = refl
none_there (Some f) h = absurd (cc)

pub commands_are_edits : CommandsAreEdits
commands_are_edits e old text next (inr h) = (Err EditFault.OutOfMemory, old, (none_there (refusal e (book_of old)) h.0, refl), h.1, h.2)
commands_are_edits e old text next (inl h) = by (refusal e (book_of old)) refl h.0 h.1
  where
    by : (o : Option EditFault) → refusal e (book_of old) ≡ o → text ≡ edit_answer (refusal e (book_of old)) → next ≡ after_edit e (book_of old)
        → (a : Reply) × (new : Sheet) × Answers e old a new × (text ≡ edit_answer (fault_of a)) × (next ≡ book_of new)
    by None is told after =
        (Ok tt, edited_sheet e old, (is, refl), told ∙ ap edit_answer is, after ∙ ap (λ o. unless_refused o (edited e (book_of old)) (book_of old)) is ∙ sym (edits_book e old))
    by (Some f) is told after =
        (Err f, old, (fails e old f is, refl), told ∙ ap edit_answer is, after ∙ ap (λ o. unless_refused o (edited e (book_of old)) (book_of old)) is)

-- ---- queries

succeeds_there : {X : Type 0} (text : X → List ℕ) (r : Result X QueryFault) → IsTrue (is_ok r) → succeeds (with_text text r) ≡ true
succeeds_there text (Ok x) h = refl
succeeds_there text (Err f) h = absurd (cc)

names_are : (b : Book) (at : ℕ) (names : Result (List (List ℕ)) QueryFault) → Tells names (names_at b at)
    → Answer (Asks (ShowsNames at)) b (query_answer (with_text names_answer names)) b
names_are b at (Ok x) h = inl (ap (λ r. query_answer (with_text names_answer r)) (sym h), refl)
names_are b at (Err (QueryFault.NoCell n count)) h = inl (ap (λ r. query_answer (with_text names_answer r)) (sym h), refl)
names_are b at (Err (QueryFault.NoName name)) h = inl (ap (λ r. query_answer (with_text names_answer r)) (sym h), refl)
names_are b at (Err (QueryFault.NoSave name)) h = inl (ap (λ r. query_answer (with_text names_answer r)) (sym h), refl)
names_are b at (Err QueryFault.OutOfMemory) h = inr (succeeds_there names_answer (names_at b at) h, refl, refl)

value_is : (b : Book) (at : ℕ) (name : List ℕ) (value : Result Shown QueryFault) → Tells value (value_at b at name)
    → Answer (Asks (ShowsValue at name)) b (query_answer (with_text value_answer value)) b
value_is b at name (Ok x) h = inl (ap (λ r. query_answer (with_text value_answer r)) (sym h), refl)
value_is b at name (Err (QueryFault.NoCell n count)) h = inl (ap (λ r. query_answer (with_text value_answer r)) (sym h), refl)
value_is b at name (Err (QueryFault.NoName m)) h = inl (ap (λ r. query_answer (with_text value_answer r)) (sym h), refl)
value_is b at name (Err (QueryFault.NoSave m)) h = inl (ap (λ r. query_answer (with_text value_answer r)) (sym h), refl)
value_is b at name (Err QueryFault.OutOfMemory) h = inr (succeeds_there value_answer (value_at b at name) h, refl, refl)

pub tells_are_commands : TellsAreCommands
tells_are_commands b at = (names_are b at, value_is b at)
