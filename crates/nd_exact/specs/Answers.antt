-- The answers to edits and queries: two to the same one are the same, memory aside, and leave the same.
use Rattle.std.specs.Prelude.{◌≡◌, ◌≢◌, ℕ, List, [], ◌∷◌, ⊤, Result, Err}
use Rattle.nd_model.specs.Book.Book.{Edit, EditFault, QueryFault}
use Rattle.nd_model.specs.Book.Notebook.{Sheet, book_of, edited_sheet, Answers, CountsRuns, AreAnswered, Tells}
use Rattle.nd_model.specs.Book.Stale.{CountsStale}
use Rattle.nd_model.specs.Book.Renaming.{Shown}

-- what an edit is answered
abbrev pub Reply : Type 0
Reply = Result (Unit {0}) EditFault

-- the answer is no want of memory
abbrev pub IsSettled : Reply → Type 0
IsSettled a = a ≢ Err EditFault.OutOfMemory

-- ---- edits

-- ANSWERS ARE DETERMINED: two that are no want of memory, to an edit of the same notebook, are the same, and leave the same
-- notebook.
abbrev pub AnswersAreDetermined : Type 0
AnswersAreDetermined = (e : Edit) (old new now : Sheet) (a b : Reply) → Answers e old a new → Answers e old b now → IsSettled a → IsSettled b
    → (a ≡ b) × (new ≡ now)

-- EACH EDIT HAS AN ANSWER that is no want of memory.
abbrev pub EachIsAnswered : Type 0
EachIsAnswered = (e : Edit) (old : Sheet) → (a : Reply) × (new : Sheet) × Answers e old a new × IsSettled a

-- MEMORY COMES LAST: an edit that is refused for another reason is never refused for want of memory.
abbrev pub MemoryComesLast : Type 0
MemoryComesLast = (e : Edit) (old new now : Sheet) (f : EditFault) → Answers e old (Err f) new → Answers e old (Err EditFault.OutOfMemory) now
    → f ≡ EditFault.OutOfMemory

-- A REFUSAL CHANGES NOTHING, whatever it is.
abbrev pub RefusalChangesNothing : Type 0
RefusalChangesNothing = (e : Edit) (old new : Sheet) (f : EditFault) → Answers e old (Err f) new → new ≡ old

-- ---- the meter

-- NO ANSWER COUNTS MORE than the cells that the edit makes stale: the book after it is the edited one, or would be.
abbrev pub CountsAtMostStale : Type 0
CountsAtMostStale = (e : Edit) (old : Sheet) (a : Reply) (before after : ℕ) → CountsRuns e old a before after
    → CountsStale (book_of old) (book_of (edited_sheet e old)) before after

-- A REFUSAL COUNTS NOTHING, but for a want of memory.
abbrev pub RefusalCountsNothing : Type 0
RefusalCountsNothing = (e : Edit) (old new : Sheet) (f : EditFault) (before after : ℕ) → Answers e old (Err f) new → IsSettled (Err f)
    → CountsRuns e old (Err f) before after → after ≡ before

-- ---- lists of edits

abbrev pub AreSettled : List Reply → Type 0
AreSettled [] = ⊤
AreSettled (a ∷ xs) = IsSettled a × AreSettled xs

-- LISTS OF ANSWERS ARE DETERMINED, whatever the meter shows.
abbrev pub ListsAreDetermined : Type 0
ListsAreDetermined = (es : List Edit) (old new now : Sheet) (from to since till : ℕ) (xs ys : List Reply) → AreAnswered es old from xs new to
    → AreAnswered es old since ys now till → AreSettled xs → AreSettled ys → (xs ≡ ys) × (new ≡ now)

-- ---- queries

-- WHAT IS TOLD IS DETERMINED.
abbrev pub IsDeterminedBy : {X : Type 0} → Result X QueryFault → Type 0
IsDeterminedBy {X} meant = (a b : Result X QueryFault) → Tells a meant → Tells b meant → a ≢ Err QueryFault.OutOfMemory → b ≢ Err QueryFault.OutOfMemory
    → a ≡ b

-- MEMORY COMES LAST: a query that is refused for another reason is never refused for want of memory.
abbrev pub TellsMemoryLast : {X : Type 0} → Result X QueryFault → Type 0
TellsMemoryLast {X} meant = (f : QueryFault) → Tells {X = X} (Err f) meant → Tells {X = X} (Err QueryFault.OutOfMemory) meant → f ≡ QueryFault.OutOfMemory

abbrev pub TellsOne : Type 0 → Type 0
TellsOne X = (meant : Result X QueryFault) → IsDeterminedBy meant × TellsMemoryLast meant

-- so it is with names, and with a value
abbrev pub TellingIsDetermined : Type 0
TellingIsDetermined = TellsOne (List (List ℕ)) × TellsOne Shown
