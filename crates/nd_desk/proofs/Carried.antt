-- Words for front ends that are carried out.
use Rattle.std.proofs.Common.{◌≡◌, ℕ, true, false, List, [], ◌++◌, Option, Some, append-nil, Result, Ok, Err, ◌⊎◌, refl, sym, ap, subst, inl, inr}
use Rattle.std.specs.Prelude.{IsUtf8, is_ok, codes}
use Rattle.std.specs.Str.{is_utf8}
use Rattle.std.proofs.lemmas.Bool.{false_from_ne_true}
use Rattle.std.proofs.lemmas.Str.{IsUtf8-from_is_utf8, is_utf8-from_IsUtf8}
use Rattle.std.specs.declared.io.ErrorKind.{ErrorKind}
use Rattle.std.specs.declared.io.ErrorKind.TheVariants as kind
use Rattle.nd_model.specs.Book.Book.{BadInputName, EditFault, QueryFault, SetInput, value_at, saved_at}
use Rattle.nd_model.specs.Book.Book as model
use Rattle.nd_model.specs.Book.Notebook.{Sheet, Tells, book_of}
use Rattle.nd_model.specs.Book.Renaming.{Shown}
use Rattle.nd_model.specs.Book.Script as script
use Rattle.nd_model.specs.Book.Script.{Edits, edit_answer, query_answer, refused_line, source_of, with_text}
use Rattle.nd_model.specs.Cells.InputName.{is_input_name}
use Rattle.nd_model.specs.Cells.Running.{Source}
use Rattle.nd_model.specs.Indexing.Selecting.{Item}
use Rattle.nd_model.specs.Text.FaultText.{query_fault_text}
use Rattle.nd_script.specs.Lines.Answers.{AnswerState, Pushes}
use Rattle.nd_script.specs.Lines.Language.{AnswersIn}
use Rattle.nd_script.specs.Lines.Run.{Answered}
use Rattle.nd_notebook.specs.declared.edit.EditFault as declared
use Rattle.nd_notebook.specs.declared.query.QueryFault as asked
use Rattle.nd_notebook.specs.declared.reading.CellReads.{CellReads}
use Rattle.nd_notebook.specs.declared.trying.TriedCell.{TriedCell}
use Rattle.nd_notebook.specs.Queries.{query_fault_of}
use Rattle.nd_notebook.specs.Readers.{TellsReads}
use Rattle.nd_notebook.specs.ReadsShown.{reads_told}
use Rattle.nd_notebook.specs.Tried.{tried, tried_of, TellsTried, CountsTried}
use Rattle.nd_commands.specs.Noted.{CarriedNoted, Noted, NotedAnswer, NotesRan, noted_of}
use Rattle.nd_commands.proofs.Edited.{refused_is_not_ok}
use Rattle.nd_desk.specs.Answers.{desk, Gives, tried_answer, type_answer, part_answer, reads_answer, cause_text, out_of_memory, TellsValue, SavesSome, SetsSome, IsUnhad}
use Rattle.nd_desk.specs.Carry.{Asked, CarriedOut, PushesAnswer}
use Rattle.nd_desk.specs.Files.{cause_of_kind, unhad_text}
use Rattle.nd_desk.specs.Lines.{IsOfForm, input_of, sets}
use Rattle.nd_desk.specs.Parts.{part_of}
use Rattle.nd_desk.specs.Words.{Command, Line, Whole, Plainly, read_word, step_of_word, Tries, AsksReads, AsksType, AsksPart, SavesFile, Plain, closed_try}
use Rattle.nd_desk.specs.declared.form.FileForm.{FileForm}
use Rattle.nd_desk.specs.declared.form.FileForm.TheVariants as forms

-- ---- cells that are tried, and what cells read

pub tried_out : (r : Result TriedCell declared.EditFault) (at : ℕ) (source : List ℕ) (sheet : Sheet) (before after : ℕ) (held : List ℕ) (was now : AnswerState)
    → TellsTried (tried_of r) (tried at source (book_of sheet)) → CountsTried (tried_of r) before after → Pushes was (tried_answer (tried_of r)) now
    → CarriedOut (Tries at source) (noted_of sheet before held) was now (noted_of sheet after held)
tried_out r at source sheet before after held was now told counts pushed = (tried_answer (tried_of r), (tried_of r, told, counts, refl, refl, refl), pushed)

pub reads_out : (r : Result CellReads asked.QueryFault) (at : ℕ) (sheet : Sheet) (was now : AnswerState) → TellsReads (book_of sheet) at (reads_told r)
    → Pushes was (query_answer (with_text reads_answer (reads_told r))) now → Asked (AsksReads at) sheet was now
reads_out r at sheet was now told pushed = λ count ran. (query_answer (with_text reads_answer (reads_told r)), ((reads_told r, told, refl), refl), pushed)

pub closed_text : (at : ℕ) (ls : List (List ℕ)) (text : List ℕ) → text ≡ source_of ls → IsUtf8 (source_of ls) → closed_try at ls ≡ Tries at text
closed_text at ls text same utf8 = let text' : is_utf8 (source_of ls) ≡ true = is_utf8-from_IsUtf8 (source_of ls) utf8 in rw (text', ← same) refl

pub closed_bytes : (at : ℕ) (ls : List (List ℕ)) → (IsUtf8 (source_of ls) → ⊥) → closed_try at ls ≡ Plain script.Bad
closed_bytes at ls other =
    let fails : is_utf8 (source_of ls) ≡ false = false_from_ne_true (is_utf8 (source_of ls)) (λ is. other (IsUtf8-from_is_utf8 (source_of ls) is)) in
    rw fails refl

pub bad_out : (old : Noted) (was now : AnswerState) → Pushes was (codes "bad command\n") now → CarriedOut (Plain script.Bad) old was now old
bad_out old was now pushed = (codes "bad command\n", ((inl (refl, refl), refl), refl), pushed)

-- a word of one line
pub word_out : (line : List ℕ) (c : Command) (old new : Noted) (was now : AnswerState) → Some (Whole c) ≡ read_word line → CarriedOut c old was now new → Answered desk (Plainly script.Between) line (Plainly script.Between) old was now new
word_out line c old new was now is given =
    let P : Option Line → Type 0 = λ o. (answer : List ℕ) × ((Plainly script.Between ≡ (step_of_word line o).1) × AnswersIn desk (step_of_word line o).0 old answer new) × Pushes was answer now in
    subst P is (given.0, (refl, (given.0, [], new, sym (append-nil given.0), given.1, (refl, refl))), given.2)

-- ---- what is told of a value

by_value : (answer : Shown → List ℕ) (asked : Result Shown QueryFault) (v : Shown) (was now : AnswerState) → asked ≡ Ok v → PushesAnswer (answer v) was now
    → (text : List ℕ) × TellsValue answer asked text × Pushes was text now
by_value answer asked v was now is (inl p) = (answer v, inl (sym (ap (λ r. query_answer (with_text answer r)) is)), p)
by_value answer asked v was now is (inr p) = (out_of_memory, inr (ap is_ok is, refl), p)

pub told_type : (sheet : Sheet) (at : ℕ) (name : List ℕ) (v : Shown) (was now : AnswerState) → value_at (book_of sheet) at name ≡ Ok v → PushesAnswer (type_answer v) was now
    → Asked (AsksType at name) sheet was now
told_type sheet at name v was now is pushed =
    let given = by_value type_answer (value_at (book_of sheet) at name) v was now is pushed in
    λ count ran. (given.0, (given.1, refl), given.2)

pub told_part : (sheet : Sheet) (at : ℕ) (name : List ℕ) (index : List Item) (v : Shown) (was now : AnswerState) → value_at (book_of sheet) at name ≡ Ok v
    → PushesAnswer (part_answer (part_of index v)) was now → Asked (AsksPart at name index) sheet was now
told_part sheet at name index v was now is pushed =
    let given = by_value (λ w. part_answer (part_of index w)) (value_at (book_of sheet) at name) v was now is pushed in
    λ count ran. (given.0, (given.1, refl), given.2)

refused_value : (answer : Shown → List ℕ) (asked : Result Shown QueryFault) (f : QueryFault) → Tells (Err f) asked → TellsValue answer asked (query_answer (Err f))
refused_value answer asked (QueryFault.NoCell at count) told = inl (sym (ap (λ r. query_answer (with_text answer r)) told))
refused_value answer asked (QueryFault.NoName name) told = inl (sym (ap (λ r. query_answer (with_text answer r)) told))
refused_value answer asked (QueryFault.NoSave name) told = inl (sym (ap (λ r. query_answer (with_text answer r)) told))
refused_value answer asked QueryFault.OutOfMemory told = inr (told, refl)

pub untold_type : (sheet : Sheet) (at : ℕ) (name : List ℕ) (f : asked.QueryFault) (was now : AnswerState)
    → Tells (Err (query_fault_of name f)) (value_at (book_of sheet) at name) → Pushes was (refused_line (query_fault_text (query_fault_of name f))) now
    → Asked (AsksType at name) sheet was now
untold_type sheet at name f was now told pushed =
    let refused = refused_value type_answer (value_at (book_of sheet) at name) (query_fault_of name f) told in
    λ count ran. (refused_line (query_fault_text (query_fault_of name f)), (refused, refl), pushed)

pub untold_part : (sheet : Sheet) (at : ℕ) (name : List ℕ) (index : List Item) (f : asked.QueryFault) (was now : AnswerState)
    → Tells (Err (query_fault_of name f)) (value_at (book_of sheet) at name) → Pushes was (refused_line (query_fault_text (query_fault_of name f))) now
    → Asked (AsksPart at name index) sheet was now
untold_part sheet at name index f was now told pushed =
    let refused = refused_value (λ w. part_answer (part_of index w)) (value_at (book_of sheet) at name) (query_fault_of name f) told in
    λ count ran. (refused_line (query_fault_text (query_fault_of name f)), (refused, refl), pushed)

-- ---- files

-- each kind of an error is a cause, or want of memory
is_unhad : (tried : List ℕ) (k : ErrorKind) → IsUnhad tried (unhad_text tried k)
is_unhad tried kind.OutOfMemory = inr refl
is_unhad tried k = inl (cause_of_kind k, refl)

-- a kind that is no want of memory
pub unhad_cause : (tried : List ℕ) (k : ErrorKind) → (k ≡ kind.OutOfMemory → ⊥) → unhad_text tried k ≡ refused_line (tried ++ cause_text (cause_of_kind k))
unhad_cause tried kind.OutOfMemory other = absurd (other refl)
unhad_cause tried k other = refl

by_form : (form : FileForm) (name path : List ℕ) (old : Noted) (text : List ℕ) (new : Noted) → SetsSome (input_of form) name old text new → Gives (sets name path form) old text new
by_form forms.Npy name path old text new given = given
by_form (forms.Raw format itemsize shape strides offset) name path old text new given = given

pub set_some : (form : FileForm) (name path : List ℕ) (source : Source) (old new : Noted) (was now : AnswerState) → IsOfForm form source
    → CarriedNoted (Edits (SetInput name source)) old was now new → CarriedOut (sets name path form) old was now new
set_some form name path source old new was now is given =
    (given.0, by_form form name path old given.0 new (inl (is.0, subst (λ s. NotedAnswer (Edits (SetInput name s)) old given.0 new) is.1 given.1)), given.2)

-- under a name that no input may have nothing is read
pub bad_name : (form : FileForm) (name path : List ℕ) (old : Noted) (was now : AnswerState) → is_input_name name ≡ false → Pushes was (edit_answer (Some BadInputName)) now
    → CarriedOut (sets name path form) old was now old
bad_name form name path old was now bad pushed =
    let text = edit_answer (Some BadInputName) in
    let refused : model.refusal (SetInput name (input_of form [])) old.tally.book ≡ Some BadInputName = rw bad refl in
    let notes : NotesRan (Edits (SetInput name (input_of form []))) text old old = (λ same. absurd (refused_is_not_ok BadInputName same), λ other. refl) in
    (text, by_form form name path old text old (inl ([], ((inl (rw refused refl, rw refused refl), rw refused refl), notes))), pushed)

pub unread : (form : FileForm) (name path : List ℕ) (k : ErrorKind) (old : Noted) (was now : AnswerState) → is_input_name name ≡ true
    → Pushes was (unhad_text (codes "Unread ") k) now → CarriedOut (sets name path form) old was now old
unread form name path k old was now good pushed =
    let text = unhad_text (codes "Unread ") k in
    (text, by_form form name path old text old (inr (good, is_unhad (codes "Unread ") k, refl)), pushed)

saves_some : (saved : Result (List ℕ) QueryFault) (file text : List ℕ) → saved ≡ Ok file → (text ≡ codes "ok\n") ⊎ IsUnhad (codes "Unwritten ") text → SavesSome saved text
saves_some saved file text is given = rw is given

saves_none : (saved : Result (List ℕ) QueryFault) (f : QueryFault) → saved ≡ Err f → SavesSome saved (query_answer (Err f))
saves_none saved f is = rw is refl

pub written : (sheet : Sheet) (at : ℕ) (name path file : List ℕ) (was now : AnswerState) → saved_at (book_of sheet) at name ≡ Ok file → Pushes was (codes "ok\n") now
    → Asked (SavesFile at name path) sheet was now
written sheet at name path file was now is pushed =
    λ count ran. (codes "ok\n", (saves_some (saved_at (book_of sheet) at name) file (codes "ok\n") is (inl refl), refl), pushed)

pub unwritten : (sheet : Sheet) (at : ℕ) (name path file : List ℕ) (k : ErrorKind) (was now : AnswerState) → saved_at (book_of sheet) at name ≡ Ok file
    → Pushes was (unhad_text (codes "Unwritten ") k) now → Asked (SavesFile at name path) sheet was now
unwritten sheet at name path file k was now is pushed =
    let text = unhad_text (codes "Unwritten ") k in
    λ count ran. (text, (saves_some (saved_at (book_of sheet) at name) file text is (inr (is_unhad (codes "Unwritten ") k)), refl), pushed)

pub no_save : (sheet : Sheet) (at : ℕ) (name path : List ℕ) (f : asked.QueryFault) (was now : AnswerState) → saved_at (book_of sheet) at name ≡ Err (query_fault_of name f)
    → Pushes was (refused_line (query_fault_text (query_fault_of name f))) now → Asked (SavesFile at name path) sheet was now
no_save sheet at name path f was now is pushed =
    λ count ran. (refused_line (query_fault_text (query_fault_of name f)), (saves_none (saved_at (book_of sheet) at name) (query_fault_of name f) is, refl), pushed)
