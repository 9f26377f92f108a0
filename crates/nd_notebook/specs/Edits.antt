-- Edits and their answers as the definitions have them.
use Rattle.std.specs.Prelude.{◌≡◌, ℕ, List, [], ◌∷◌, None, Result, Ok, Err}
use Rattle.nd_model.specs.Book.Book as model
use Rattle.nd_model.specs.Book.Notebook.{Sheet, Answers, CountsRuns, book_of, edited_sheet}
use Rattle.nd_schedule.specs.Schedule.Ran.{AreStale}
use Rattle.nd_input.specs.Sources.{source_of}
use Rattle.nd_session.specs.Inputs.Values.{rule_of}
use Rattle.nd_notebook.specs.declared.edit.Edit.{Edit}
use Rattle.nd_notebook.specs.declared.edit.Edit.TheVariants.{Insert, Change, Move, Remove, SetInput, DropInput, SetRule}
use Rattle.nd_notebook.specs.declared.edit.EditFault.{EditFault}
use Rattle.nd_notebook.specs.declared.edit.EditFault.TheVariants as edits

abbrev pub edit_of : Edit → model.Edit
edit_of (Insert at source) = model.Insert at source.now
edit_of (Change at source) = model.Change at source.now
edit_of (Move from to) = model.Move from to
edit_of (Remove at) = model.Remove at
edit_of (SetInput name input) = model.SetInput name.now (source_of input.now)
edit_of (DropInput name) = model.DropInput name.now
edit_of (SetRule rule) = model.SetRule (rule_of rule)

-- the name of the input that an edit is of
abbrev pub name_in : model.Edit → List ℕ
name_in (model.Insert at source) = []
name_in (model.Change at source) = []
name_in (model.Move from to) = []
name_in (model.Remove at) = []
name_in (model.SetInput name input) = name
name_in (model.DropInput name) = name
name_in (model.SetRule rule) = []

-- why an edit of this name is not done
abbrev pub edit_fault_of : List ℕ → EditFault → model.EditFault
edit_fault_of name (edits.NoCell at count) = model.EditFault.NoCell at count
edit_fault_of name edits.TooManyCells = model.TooManyCells
edit_fault_of name edits.CellTooLong = model.CellTooLong
edit_fault_of name edits.BadInputName = model.BadInputName
edit_fault_of name edits.InputTooLarge = model.InputTooLarge
edit_fault_of name edits.NoInputNamed = model.NoInputNamed name
edit_fault_of name (edits.Memory m) = model.EditFault.OutOfMemory

-- the answer to an edit
abbrev pub outcome_of : {X : Type 0} → model.Edit → Result X EditFault → Result (Unit {0}) model.EditFault
outcome_of e (Ok done) = Ok tt
outcome_of e (Err f) = Err (edit_fault_of (name_in e) f)

-- the answers to the first of these edits
abbrev pub outcomes_of : List model.Edit → List (Result (Unit {0}) EditFault) → List (Result (Unit {0}) model.EditFault)
outcomes_of [] rs = []
outcomes_of (e ∷ es) [] = []
outcomes_of (e ∷ es) (r ∷ rs) = outcome_of e r ∷ outcomes_of es rs

-- WHICH CELLS AN EDIT RAN that was done: the stale ones
abbrev pub RanFor : model.Edit → Sheet → List ℕ → Type 0
RanFor e old places = AreStale (book_of old) (book_of (edited_sheet e old)) places

-- the edit is refused in this way in each notebook, which counts nothing; or it is refused in none
abbrev pub IsRefusalOf : model.Edit → Result (Unit {0}) EditFault → Type 0
IsRefusalOf e (Ok done) = (s : Sheet) → model.refusal e (book_of s) ≡ None
IsRefusalOf e (Err f) = (s : Sheet) (n : ℕ) → Answers e s (Err (edit_fault_of (name_in e) f)) s × CountsRuns e s (Err (edit_fault_of (name_in e) f)) n n
