-- A cell that is tried: what it would give at a place of a notebook, which stays as it is.
use Rattle.std.specs.Prelude.{◌≡◌, ℕ, ◌≤◌, IsTrue, is_ok, nat_le, nat_lt, if◌then◌else◌, List, [], length, Result, Ok, Err}
use Rattle.nd_model.specs.Book.Book.{Book, CellResult, Insert, EditFault, TooManyCells, CellTooLong, BadInputName, InputTooLarge, NoInputNamed, QueryFault, count_of, edited, most_source, result_at}
use Rattle.nd_model.specs.Book.Stale.{counted}
use Rattle.nd_notebook.specs.declared.edit.EditFault as declared
use Rattle.nd_notebook.specs.declared.trying.TriedCell.{TriedCell}
use Rattle.nd_notebook.specs.Edits.{edit_fault_of}

-- what is told of the cell at a place; no error comes where one stands there
abbrev pub told_there : (at count : ℕ) → Result CellResult QueryFault → Result CellResult EditFault
told_there at count (Ok r) = Ok r
told_there at count (Err f) = Err (EditFault.NoCell at count)

-- WHAT A TRY GIVES: the result of the cell at the place in the notebook with this text inserted there. The place may be behind the
-- last cell. A notebook that has no room for one more refuses no try.
abbrev pub tried : (at : ℕ) → (source : List ℕ) → Book → Result CellResult EditFault
tried at source b =
    if nat_lt (count_of b) at then Err (EditFault.NoCell at (count_of b))
    else if nat_le (length source) most_source then told_there at (count_of b) (result_at (edited (Insert at source) b) at)
    else Err CellTooLong

-- what a cell gave that was tried
abbrev pub given_by : TriedCell → CellResult
given_by t = record { text = t.made.text; refusal = t.made.refusal; saves = t.made.saves }

-- the answer to a try
abbrev pub tried_of : Result TriedCell declared.EditFault → Result CellResult EditFault
tried_of (Ok t) = Ok (given_by t)
tried_of (Err f) = Err (edit_fault_of [] f)

-- THE ANSWER TO A TRY is what it gives. Memory may be wanted only where it is not refused.
abbrev pub TellsTried : Result CellResult EditFault → Result CellResult EditFault → Type 0
TellsTried (Ok r) meant = meant ≡ Ok r
TellsTried (Err EditFault.OutOfMemory) meant = IsTrue (is_ok meant)
TellsTried (Err (EditFault.NoCell at count)) meant = meant ≡ Err (EditFault.NoCell at count)
TellsTried (Err TooManyCells) meant = meant ≡ Err TooManyCells
TellsTried (Err CellTooLong) meant = meant ≡ Err CellTooLong
TellsTried (Err BadInputName) meant = meant ≡ Err BadInputName
TellsTried (Err InputTooLarge) meant = meant ≡ Err InputTooLarge
TellsTried (Err (NoInputNamed name)) meant = meant ≡ Err (NoInputNamed name)

-- WHAT A TRY COUNTS on the meter: one run; where memory is wanted, one at most; where it is refused, none.
abbrev pub CountsTried : Result CellResult EditFault → (before after : ℕ) → Type 0
CountsTried (Ok r) before after = after ≡ counted 1 before
CountsTried (Err EditFault.OutOfMemory) before after = (runs : ℕ) × (runs ≤ 1) × (after ≡ counted runs before)
CountsTried (Err (EditFault.NoCell at count)) before after = after ≡ before
CountsTried (Err TooManyCells) before after = after ≡ before
CountsTried (Err CellTooLong) before after = after ≡ before
CountsTried (Err BadInputName) before after = after ≡ before
CountsTried (Err InputTooLarge) before after = after ≡ before
CountsTried (Err (NoInputNamed name)) before after = after ≡ before
