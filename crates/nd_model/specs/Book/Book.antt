-- Notebooks under edits, and what they answer.
use Rattle.std.specs.Prelude.{◌≡◌, ℕ, zero, suc, ◌+◌, ◌*◌, ◌^◌, max, Bool, false, ◌||◌, nat_eq, nat_lt, nat_le, bytes_eq, is_none, if◌then◌else◌, List, [], ◌∷◌, length, map, insert, remove, slice_get, slice_index_or, slice_set, Option, Some, None, Result, Ok, Err}
use Rattle.nd_model.specs.Cells.Session.{Session, no_session, lookup}
use Rattle.nd_model.specs.Cells.Running.{Inputs, Source, Npy, Buffer, Rule, Python, World}
use Rattle.nd_model.specs.Cells.InputName.{is_input_name}
use Rattle.nd_model.specs.Cells.Fault.{Refusal}
use Rattle.nd_model.specs.Grammar.Syntax.{Parsed}
use Rattle.nd_model.specs.Grammar.Reading.{reading}
use Rattle.nd_model.specs.Cells.Cell.{Saved, Ended, notebook}
use Rattle.nd_model.specs.Book.Renaming.{Shown, Told, told, AreDistinct}

-- a cell: its label, which stays with it and is seen nowhere, and the bytes of its text
pub record Cell : Type 0 where
  pub label : ℕ
  pub source : List ℕ

-- a notebook: its cells in order, with the inputs and the rule by which they are run
pub record Book : Type 0 where
  pub cells : List Cell
  pub world : World

abbrev pub no_inputs : Inputs
no_inputs name = None

abbrev pub no_book : Book
no_book = record { cells = []; world = record { inputs = no_inputs; rule = Python } }

abbrev pub count_of : Book → ℕ
count_of b = length b.cells

-- ---- edits

-- Places count from 0. A cell that is moved stands at `to` afterwards. An input is set in the place of one of its name. The rule
-- is never refused.
pub data Edit : Type 0 where
  Insert : (at : ℕ) → (source : List ℕ) → Edit
  Change : (at : ℕ) → (source : List ℕ) → Edit
  Move : (from : ℕ) → (to : ℕ) → Edit
  Remove : (at : ℕ) → Edit
  SetInput : (name : List ℕ) → (input : Source) → Edit
  DropInput : (name : List ℕ) → Edit
  SetRule : Rule → Edit

-- The first that holds is the refusal; that memory is wanted comes last, and no definition here says when.
pub data EditFault : Type 0 where
  NoCell : (at : ℕ) → (count : ℕ) → EditFault
  TooManyCells : EditFault
  CellTooLong : EditFault
  BadInputName : EditFault
  InputTooLarge : EditFault
  NoInputNamed : (name : List ℕ) → EditFault
  OutOfMemory : EditFault

-- the most cells of a notebook, and the most bytes of a cell
abbrev pub most_cells : ℕ
most_cells = 10000

abbrev pub most_source : ℕ
most_source = 65536

-- a text that is too long is refused
abbrev pub fit_source : List ℕ → Option EditFault
fit_source source = if nat_le (length source) most_source then None else Some CellTooLong

-- with this many cells, a place that is none is refused, and else what follows decides
abbrev pub in_place : (at count : ℕ) → Option EditFault → Option EditFault
in_place at count then_this = if nat_lt at count then then_this else Some (NoCell at count)

-- ---- inputs

-- the most that an input takes
abbrev pub most_input : ℕ
most_input = 2 ^ 26

-- what an input takes: its bytes, those of its format, and 8 for each length and stride
abbrev pub size_of_input : Source → ℕ
size_of_input (Npy bytes) = length bytes
size_of_input (Buffer format itemsize shape strides offset bytes) =
    length bytes + length format + 8 * (length shape + length strides)

abbrev pub fit_input : Source → Option EditFault
fit_input input = if nat_le (size_of_input input) most_input then None else Some InputTooLarge

-- under a name that is none an edit of an input is refused, and else what follows decides
abbrev pub under_name : List ℕ → Option EditFault → Option EditFault
under_name name then_this = if is_input_name name then then_this else Some BadInputName

-- the inputs with another one under a name, or none there
abbrev pub with_input : List ℕ → Option Source → Inputs → Inputs
with_input name input old n = if bytes_eq n name then input else old n

-- ---- refusals

-- WHY AN EDIT IS REFUSED, memory aside. A new cell may also stand behind the last one.
abbrev pub refusal : Edit → Book → Option EditFault
refusal (Insert at source) b =
    if nat_lt (count_of b) at then Some (NoCell at (count_of b))
    else if nat_le most_cells (count_of b) then Some TooManyCells
    else fit_source source
refusal (Change at source) b = in_place at (count_of b) (fit_source source)
refusal (Move from to) b = in_place from (count_of b) (in_place to (count_of b) None)
refusal (Remove at) b = in_place at (count_of b) None
refusal (SetInput name input) b = under_name name (fit_input input)
refusal (DropInput name) b = under_name name (if is_none (b.world.inputs name) then Some (NoInputNamed name) else None)
refusal (SetRule rule) b = None

abbrev pub is_label : ℕ → List Cell → Bool
is_label n [] = false
is_label n (c ∷ cs) = nat_eq n c.label || is_label n cs

-- a number above each label
abbrev pub above_labels : List Cell → ℕ
above_labels [] = 0
above_labels (c ∷ cs) = max (c.label + 1) (above_labels cs)

-- of this many numbers, from n on, the first that is no label, or else the number behind them
abbrev pub first_free : (many : ℕ) → (n : ℕ) → List Cell → ℕ
first_free zero n cells = n
first_free (suc many) n cells = if is_label n cells then first_free many (n + 1) cells else n

-- the least number in no present cell
abbrev pub fresh_label : List Cell → ℕ
fresh_label cells = first_free (above_labels cells) 0 cells

-- read only where there is no such cell
abbrev pub no_cell : Cell
no_cell = record { label = 0; source = [] }

abbrev pub edited_cells : Edit → List Cell → List Cell
edited_cells (Insert at source) cells = insert cells at (record { label = fresh_label cells; source = source })
edited_cells (Change at source) cells = slice_set cells at (record { label = (slice_index_or cells at no_cell).label; source = source })
edited_cells (Move from to) cells = insert (remove cells from) to (slice_index_or cells from no_cell)
edited_cells (Remove at) cells = remove cells at
edited_cells (SetInput name input) cells = cells
edited_cells (DropInput name) cells = cells
edited_cells (SetRule rule) cells = cells

abbrev pub edited_inputs : Edit → Inputs → Inputs
edited_inputs (Insert at source) inputs = inputs
edited_inputs (Change at source) inputs = inputs
edited_inputs (Move from to) inputs = inputs
edited_inputs (Remove at) inputs = inputs
edited_inputs (SetInput name input) inputs = with_input name (Some input) inputs
edited_inputs (DropInput name) inputs = with_input name None inputs
edited_inputs (SetRule rule) inputs = inputs

abbrev pub edited_rule : Edit → Rule → Rule
edited_rule (Insert at source) old = old
edited_rule (Change at source) old = old
edited_rule (Move from to) old = old
edited_rule (Remove at) old = old
edited_rule (SetInput name input) old = old
edited_rule (DropInput name) old = old
edited_rule (SetRule rule) old = rule

abbrev pub edited_world : Edit → World → World
edited_world e w = record { inputs = edited_inputs e w.inputs; rule = edited_rule e w.rule }

-- THE NOTEBOOK AFTER AN EDIT that is not refused
abbrev pub edited : Edit → Book → Book
edited e b = record { cells = edited_cells e b.cells; world = edited_world e b.world }

-- a refused edit changes nothing
abbrev pub unless_refused : Option EditFault → Book → Book → Book
unless_refused None new old = new
unless_refused (Some f) new old = old

abbrev pub after_edit : Edit → Book → Book
after_edit e b = unless_refused (refusal e b) (edited e b) b

-- after these edits, one after the other
abbrev pub edits : List Edit → Book → Book
edits [] b = b
edits (e ∷ es) b = edits es (after_edit e b)

-- ---- what running all cells in order, from nothing, gives

abbrev pub read_cells : List Cell → List (ℕ × Parsed)
read_cells [] = []
read_cells (c ∷ cs) = (c.label, reading c.source) ∷ read_cells cs

-- how each cell ends, and the session after it
abbrev pub ended_cells : Book → List (Ended × Session)
ended_cells b = notebook (read_cells b.cells) b.world no_session

abbrev pub told_book : Book → List Told
told_book b = told (ended_cells b)

-- ---- queries

pub data QueryFault : Type 0 where
  NoCell : (at : ℕ) → (count : ℕ) → QueryFault
  NoName : (name : List ℕ) → QueryFault
  NoSave : (name : List ℕ) → QueryFault
  OutOfMemory : QueryFault

-- what is asked of the cell at a place, where one stands
abbrev pub ask_cell : {C X : Type 0} → (at count : ℕ) → Option C → (C → Result X QueryFault) → Result X QueryFault
ask_cell at count None answer = Err (NoCell at count)
ask_cell at count (Some c) answer = answer c

-- what is told of the cell at a place
abbrev pub ask_told : {X : Type 0} → (Told → Result X QueryFault) → Book → ℕ → Result X QueryFault
ask_told answer b at = ask_cell at (count_of b) (slice_get (told_book b) at) answer

-- what a cell gives: its text, its refusal with the line, and the files that it saved
pub record CellResult : Type 0 where
  pub text : List ℕ
  pub refusal : Option (ℕ × Refusal)
  pub saves : Saved

abbrev pub source_at : Book → ℕ → Result (List ℕ) QueryFault
source_at b at = ask_cell at (count_of b) (slice_get b.cells at) (λ (c : Cell). Ok c.source)

abbrev pub result_at : Book → ℕ → Result CellResult QueryFault
result_at b at = ask_told (λ (t : Told). Ok (record { text = t.text; refusal = t.refusal; saves = t.saves })) b at

-- the names that are bound after the cell, in order
abbrev pub names_at : Book → ℕ → Result (List (List ℕ)) QueryFault
names_at b at = ask_told (λ (t : Told). Ok (map (λ (e : List ℕ × Shown). e.0) t.names)) b at

abbrev pub found_value : List ℕ → Option Shown → Result Shown QueryFault
found_value name None = Err (NoName name)
found_value name (Some v) = Ok v

-- what shows of a name's value after the cell
abbrev pub value_at : Book → ℕ → List ℕ → Result Shown QueryFault
value_at b at name = ask_told (λ (t : Told). found_value name (lookup name t.names)) b at

abbrev pub found_file : List ℕ → Option (List ℕ) → Result (List ℕ) QueryFault
found_file name None = Err (NoSave name)
found_file name (Some file) = Ok file

-- the file that the cell saved by this name
abbrev pub saved_at : Book → ℕ → List ℕ → Result (List ℕ) QueryFault
saved_at b at name = ask_told (λ (t : Told). found_file name (lookup name t.saves)) b at

-- ---- labels are not seen

abbrev pub labels_of : List Cell → List ℕ
labels_of [] = []
labels_of (c ∷ cs) = c.label ∷ labels_of cs

-- the same cells under these labels, in order
abbrev pub relabelled : List ℕ → List Cell → List Cell
relabelled ns [] = []
relabelled [] (c ∷ cs) = c ∷ cs
relabelled (n ∷ ns) (c ∷ cs) = record { label = n; source = c.source } ∷ relabelled ns cs

abbrev pub relabelled_book : List ℕ → Book → Book
relabelled_book ns b = record { cells = relabelled ns b.cells; world = b.world }

-- any distinct labels, one for each cell, make the book tell the same
abbrev pub AnswersUnderAnyLabels : Book → Type 0
AnswersUnderAnyLabels b = (ns : List ℕ) → AreDistinct ns → length ns ≡ length b.cells → told_book (relabelled_book ns b) ≡ told_book b

-- so it is with each book whose labels are distinct
abbrev pub AnyLabels : Type 0
AnyLabels = (b : Book) → AreDistinct (labels_of b.cells) → AnswersUnderAnyLabels b

-- and distinct they stay, edit after edit
abbrev pub LabelsStayDistinct : Type 0
LabelsStayDistinct = (e : Edit) (b : Book) → AreDistinct (labels_of b.cells) → AreDistinct (labels_of (after_edit e b).cells)
