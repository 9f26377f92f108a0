-- What scripts write: two runs of the same lines that are refused no memory write the same, and leave the same notebook.
use Rattle.std.specs.Prelude.{◌≡◌, ◌≢◌, ℕ, IsTrue, ◌⊎◌, List, ◌++◌, codes, Option, Some, None, Result, Ok, Err}
use Rattle.nd_model.specs.Book.Renaming.{Shown}
use Rattle.nd_model.specs.Book.Book.{Book, Edit, EditFault, refusal, QueryFault, names_at, value_at}
use Rattle.nd_model.specs.Book.Notebook as notebook
use Rattle.nd_model.specs.Book.Notebook.{Sheet, book_of, Tells}
use Rattle.nd_model.specs.Book.Script.{Command, Edits, Asks, Query, ShowsNames, ShowsValue, query, with_text, names_answer, value_answer, query_answer, edit_answer, takes_memory, refused_line, answer, Answer, RunsWhole, RunsCompleted, Answers, CutAnswers, IsFront}
use Rattle.nd_model.specs.Book.ScriptRuns.{RanToEnd}
use Rattle.nd_exact.specs.Answers.{Reply}

-- the line that tells a want of memory
abbrev pub want_line : List ℕ
want_line = refused_line (codes "OutOfMemory")

-- COMMANDS ARE DETERMINED: two answers to one that are no want of memory are the same, and so are the notebooks after it.
abbrev pub CommandIsDetermined : Type 0
CommandIsDetermined = (c : Command) (b : Book) (text told : List ℕ) (next last : Book) → Answer c b text next → Answer c b told last
    → text ≢ want_line → told ≢ want_line → (text ≡ told) × (next ≡ last)

-- an edit that would be done, or a query for names or a value that are there
abbrev pub WouldGive : Command → Book → Type 0
WouldGive c b =
    ((e : Edit) × (c ≡ Edits e) × (refusal e b ≡ None))
    ⊎ ((q : Query) × (text : List ℕ) × (c ≡ Asks q) × IsTrue (takes_memory q) × (query q b ≡ Ok text))

-- A WANT OF MEMORY STANDS FOR AN ANSWER: only what would be done or shown may want it, and then nothing changes.
abbrev pub WantStandsForAnAnswer : Type 0
WantStandsForAnAnswer = (c : Command) (b : Book) (text : List ℕ) (next : Book) → Answer c b text next → text ≢ answer c b
    → WouldGive c b × (text ≡ want_line) × (next ≡ b)

-- somewhere the text has that line
abbrev pub HasWant : List ℕ → Type 0
HasWant text = (front : List ℕ) × (back : List ℕ) × (text ≡ front ++ want_line ++ back)

-- SCRIPTS ARE DETERMINED.
abbrev pub ScriptsAreDetermined : Type 0
ScriptsAreDetermined = (script : List ℕ) (b : Book) (text told : List ℕ) (next last : Book) → RunsWhole script b text next → RunsWhole script b told last
    → ¬ HasWant text → ¬ HasWant told → (text ≡ told) × (next ≡ last)

-- So are runs that stopped at the commands which are complete in the same bytes.
abbrev pub StopsAreDetermined : Type 0
StopsAreDetermined = (given : List ℕ) (b : Book) (text told : List ℕ) (next last : Book) → RunsCompleted given b text next → RunsCompleted given b told last
    → ¬ HasWant text → ¬ HasWant told → (text ≡ told) × (next ≡ last)

-- CUT ANSWERS ARE A FRONT of whole ones, with the same notebook after them.
abbrev pub CutsAreFronts : Type 0
CutsAreFronts = (cs : List Command) (b : Book) (text : List ℕ) (last : Book) → CutAnswers cs b text last
    → (whole : List ℕ) × IsFront text whole × Answers cs b whole last

-- what was written behind these bytes has no such line
abbrev pub WantsNothing : (was now : List ℕ) → Type 0
WantsNothing was now = (text : List ℕ) → now ≡ was ++ text → ¬ HasWant text

-- RUNS ARE DETERMINED: two to the end from the same bytes, over the same notebook, where both know what was read and written.
abbrev pub RunsAreDetermined : Type 0
RunsAreDetermined = (unread : List ℕ) (left rest : Option (List ℕ)) (was now then : List ℕ) (old new last : Book)
    → RanToEnd (Some unread) left old (Some was) (Some now) new → RanToEnd (Some unread) rest old (Some was) (Some then) last
    → WantsNothing was now → WantsNothing was then → (now ≡ then) × (new ≡ last)

-- ---- scripts and notebooks

abbrev pub fault_of : Reply → Option EditFault
fault_of (Ok done) = None
fault_of (Err f) = Some f

-- WHAT A NOTEBOOK ANSWERS TO AN EDIT, a script may answer.
abbrev pub EditsAreCommands : Type 0
EditsAreCommands = (e : Edit) (old new : Sheet) (a : Reply) → notebook.Answers e old a new
    → Answer (Edits e) (book_of old) (edit_answer (fault_of a)) (book_of new)

-- AND NOTHING ELSE.
abbrev pub CommandsAreEdits : Type 0
CommandsAreEdits = (e : Edit) (old : Sheet) (text : List ℕ) (next : Book) → Answer (Edits e) (book_of old) text next
    → (a : Reply) × (new : Sheet) × notebook.Answers e old a new × (text ≡ edit_answer (fault_of a)) × (next ≡ book_of new)

-- WHAT A NOTEBOOK TELLS of names and values, a script may answer.
abbrev pub TellsAreCommands : Type 0
TellsAreCommands = (b : Book) (at : ℕ) →
    ((names : Result (List (List ℕ)) QueryFault) → Tells names (names_at b at) → Answer (Asks (ShowsNames at)) b (query_answer (with_text names_answer names)) b)
    × ((name : List ℕ) (value : Result Shown QueryFault) → Tells value (value_at b at name)
    → Answer (Asks (ShowsValue at name)) b (query_answer (with_text value_answer value)) b)
