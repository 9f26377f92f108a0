-- What a notebook answers to edits and queries, with the one choice: that memory is wanted.
use Rattle.std.specs.Prelude.{◌≡◌, ℕ, IsTrue, is_ok, List, [], ◌∷◌, Some, None, Result, Ok, Err}
use Rattle.nd_model.specs.Cells.Session.{lookup, bind, unbind}
use Rattle.nd_model.specs.Cells.Running.{Inputs, Source, Rule, Python, World}
use Rattle.nd_model.specs.Book.Book.{Book, Cell, Edit, Insert, Change, Move, Remove, SetInput, DropInput, SetRule, EditFault, TooManyCells, CellTooLong, BadInputName, InputTooLarge, NoInputNamed, refusal, edited, edited_cells, QueryFault}
use Rattle.nd_model.specs.Book.Stale.{CountsStale}

-- ---- notebooks as contracts see them: plain data

-- what all cells are run by: the inputs with their names, and the rule
pub record Setting : Type 0 where
  pub inputs : List (List ℕ × Source)
  pub rule : Rule

-- the cells in order, and what they are run by
pub record Sheet : Type 0 where
  pub cells : List Cell
  pub given : Setting

abbrev pub no_sheet : Sheet
no_sheet = record { cells = []; given = record { inputs = []; rule = Python } }

-- the inputs by name
abbrev pub inputs_in : List (List ℕ × Source) → Inputs
inputs_in given name = lookup name given

abbrev pub world_in : Setting → World
world_in s = record { inputs = inputs_in s.inputs; rule = s.rule }

abbrev pub book_of : Sheet → Book
book_of s = record { cells = s.cells; world = world_in s.given }

-- ---- edits

abbrev pub edited_given : Edit → Setting → Setting
edited_given (Insert at source) given = given
edited_given (Change at source) given = given
edited_given (Move from to) given = given
edited_given (Remove at) given = given
edited_given (SetInput name input) given = record given { inputs = bind name input given.inputs }
edited_given (DropInput name) given = record given { inputs = unbind name given.inputs }
edited_given (SetRule rule) given = record given { rule = rule }

-- after an edit that is not refused: its book is the edited one
abbrev pub edited_sheet : Edit → Sheet → Sheet
edited_sheet e s = record { cells = edited_cells e s.cells; given = edited_given e s.given }

-- Why an edit is not done: it is refused, or else memory is wanted.
abbrev pub Fails : Edit → Sheet → EditFault → Type 0
Fails e s EditFault.OutOfMemory = refusal e (book_of s) ≡ None
Fails e s (EditFault.NoCell at count) = refusal e (book_of s) ≡ Some (EditFault.NoCell at count)
Fails e s TooManyCells = refusal e (book_of s) ≡ Some TooManyCells
Fails e s CellTooLong = refusal e (book_of s) ≡ Some CellTooLong
Fails e s BadInputName = refusal e (book_of s) ≡ Some BadInputName
Fails e s InputTooLarge = refusal e (book_of s) ≡ Some InputTooLarge
Fails e s (NoInputNamed name) = refusal e (book_of s) ≡ Some (NoInputNamed name)

-- THE ANSWER TO AN EDIT: one that is not refused is done, or memory is wanted. One that is not done changes nothing.
abbrev pub Answers : Edit → Sheet → Result (Unit {0}) EditFault → Sheet → Type 0
Answers e old (Ok done) new = (refusal e (book_of old) ≡ None) × (new ≡ edited_sheet e old)
Answers e old (Err f) new = Fails e old f × (new ≡ old)

-- WHAT AN EDIT COUNTS on the meter: where it is done, and where memory is wanted, no more runs than it makes cells stale; where
-- it is refused, nothing.
abbrev pub CountsRuns : Edit → Sheet → Result (Unit {0}) EditFault → (before after : ℕ) → Type 0
CountsRuns e old (Ok done) before after = CountsStale (book_of old) (book_of (edited_sheet e old)) before after
CountsRuns e old (Err EditFault.OutOfMemory) before after = CountsStale (book_of old) (book_of (edited_sheet e old)) before after
CountsRuns e old (Err (EditFault.NoCell at count)) before after = after ≡ before
CountsRuns e old (Err TooManyCells) before after = after ≡ before
CountsRuns e old (Err CellTooLong) before after = after ≡ before
CountsRuns e old (Err BadInputName) before after = after ≡ before
CountsRuns e old (Err InputTooLarge) before after = after ≡ before
CountsRuns e old (Err (NoInputNamed name)) before after = after ≡ before

-- After a list of edits, one after the other: there is an answer for each, which says what it did to the notebook and the meter.
abbrev pub AreAnswered : List Edit → (old : Sheet) (before : ℕ) → List (Result (Unit {0}) EditFault) → (new : Sheet) (after : ℕ) → Type 0
AreAnswered [] old before [] new after = (new ≡ old) × (after ≡ before)
AreAnswered [] old before (r ∷ rs) new after = ⊥
AreAnswered (e ∷ es) old before [] new after = ⊥
AreAnswered (e ∷ es) old before (r ∷ rs) new after =
    (mid : Sheet) × (between : ℕ) × Answers e old r mid × CountsRuns e old r before between × AreAnswered es mid between rs new after

-- THE BOOK OF AN EDITED NOTEBOOK is the edited book.
abbrev pub EditsBook : Type 0
EditsBook = (e : Edit) (s : Sheet) → book_of (edited_sheet e s) ≡ edited e (book_of s)

-- ---- queries

-- THE ANSWER TO A QUERY that takes memory: what is to be told. Memory may be wanted only where there is something to tell.
abbrev pub Tells : {X : Type 0} → Result X QueryFault → Result X QueryFault → Type 0
Tells (Ok x) meant = meant ≡ Ok x
Tells (Err (QueryFault.NoCell at count)) meant = meant ≡ Err (QueryFault.NoCell at count)
Tells (Err (QueryFault.NoName name)) meant = meant ≡ Err (QueryFault.NoName name)
Tells (Err (QueryFault.NoSave name)) meant = meant ≡ Err (QueryFault.NoSave name)
Tells (Err QueryFault.OutOfMemory) meant = IsTrue (is_ok meant)
