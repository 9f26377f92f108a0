-- What the commands of a desk may answer, and the notebook and the meter after each.
use Rattle.std.specs.Prelude.{◌≡◌, ℕ, ◌+◌, ◌⊎◌, IsTrue, is_ok, List, ◌++◌, length, codes, decimal, Option, Some, None, Result, Ok, Err}
use Rattle.std.specs.List.{flat_map}
use Rattle.nd_model.specs.Arrays.View.{item_size}
use Rattle.nd_model.specs.Formats.Format.{format_text}
use Rattle.nd_model.specs.Cells.InputName.{is_input_name}
use Rattle.nd_model.specs.Cells.Running.{Source, Npy, Buffer}
use Rattle.nd_model.specs.Cells.Fault.{Fault}
use Rattle.nd_model.specs.Text.FaultText.{edit_fault_text, fault_text}
use Rattle.nd_model.specs.Cells.Cell.{Saved}
use Rattle.nd_model.specs.Book.Renaming.{Shown, ShownInt, ShownTruth, ShownScalar, ShownArray, ShownRow}
use Rattle.nd_model.specs.Book.Book.{Book, Edit, SetInput, EditFault, QueryFault, CellResult, edits, value_at, saved_at}
use Rattle.nd_model.specs.Book.Stale.{CountsStale}
use Rattle.nd_model.specs.Book.Script.{Edits, shape_text, shown_text, value_answer, ok_or_refused, edit_answer, query_answer, refused_line, with_text}
use Rattle.nd_schedule.specs.Schedule.Ran.{AreStale}
use Rattle.nd_notebook.specs.Readers.{BlockRead, CellReads, TellsReads}
use Rattle.nd_notebook.specs.Together.{RefusedEdit, first_refused}
use Rattle.nd_notebook.specs.Tried.{tried, TellsTried, CountsTried}
use Rattle.nd_commands.specs.Noted.{Noted, NotedAnswer}
use Rattle.nd_script.specs.Lines.Language.{Language}
use Rattle.nd_desk.specs.Parts.{part_of}
use Rattle.nd_desk.specs.Words.{Command, Plain, AsksWords, AsksRan, AsksReads, AsksType, AsksPart, Tries, SetsFile, SetsRaw, SavesFile, Together, Stage, step, left_open}

-- ---- answers

-- a number as `value` has it; of an array or a row what it is, without its elements
abbrev pub type_text : Shown → List ℕ
type_text (ShownInt z) = shown_text (ShownInt z)
type_text (ShownTruth t) = shown_text (ShownTruth t)
type_text (ShownScalar k z) = shown_text (ShownScalar k z)
type_text (ShownArray t shape bytes) = codes "array " ++ format_text t ++ codes " " ++ decimal (item_size t) ++ codes " " ++ shape_text shape
type_text (ShownRow t bytes) = codes "row " ++ format_text t ++ codes " " ++ decimal (item_size t)

abbrev pub type_answer : Shown → List ℕ
type_answer v = type_text v ++ codes "\n"

-- a part as `value` has a value, or why there is none
abbrev pub part_answer : Result Shown Fault → List ℕ
part_answer (Ok v) = value_answer v
part_answer (Err f) = refused_line (fault_text f)

-- each file with its length, and its bytes in the lines behind
abbrev pub file_lines : Saved → List ℕ
file_lines saves = flat_map (λ (f : List ℕ × List ℕ). codes "save " ++ f.0 ++ codes " " ++ decimal (length f.1) ++ codes "\n" ++ f.1 ++ codes "\n") saves

abbrev pub trial_answer : CellResult → List ℕ
trial_answer r = codes "text " ++ decimal (length r.text) ++ codes "\n" ++ r.text ++ ok_or_refused r.refusal ++ file_lines r.saves ++ codes "end\n"

abbrev pub tried_answer : Result CellResult EditFault → List ℕ
tried_answer (Ok r) = trial_answer r
tried_answer (Err f) = edit_answer (Some f)

abbrev pub out_of_memory : List ℕ
out_of_memory = refused_line (codes "OutOfMemory")

-- The answer is the one that is meant of the value, or memory is wanted where there is a value.
abbrev pub TellsValue : (answer : Shown → List ℕ) → Result Shown QueryFault → (text : List ℕ) → Type 0
TellsValue answer asked text = (text ≡ query_answer (with_text answer asked)) ⊎ (IsTrue (is_ok asked) × (text ≡ out_of_memory))

-- why a file is not to be had
pub data FileCause : Type 0 where
  NotFound : FileCause
  PermissionDenied : FileCause
  AlreadyExists : FileCause
  NotADirectory : FileCause
  IsADirectory : FileCause
  ReadOnlyFilesystem : FileCause
  StorageFull : FileCause
  InvalidFilename : FileCause
  Failed : FileCause

abbrev pub cause_text : FileCause → List ℕ
cause_text NotFound = codes "NotFound"
cause_text PermissionDenied = codes "PermissionDenied"
cause_text AlreadyExists = codes "AlreadyExists"
cause_text NotADirectory = codes "NotADirectory"
cause_text IsADirectory = codes "IsADirectory"
cause_text ReadOnlyFilesystem = codes "ReadOnlyFilesystem"
cause_text StorageFull = codes "StorageFull"
cause_text InvalidFilename = codes "InvalidFilename"
cause_text Failed = codes "Failed"

-- A file is not to be had, for some cause or for want of memory.
abbrev pub IsUnhad : (tried text : List ℕ) → Type 0
IsUnhad tried text = ((cause : FileCause) × (text ≡ refused_line (tried ++ cause_text cause))) ⊎ (text ≡ out_of_memory)

-- an input of the bytes of some file was set, or under a good name it was not to be had
abbrev pub SetsSome : (input : List ℕ → Source) → (name : List ℕ) → Noted → (text : List ℕ) → Noted → Type 0
SetsSome input name old text new =
    ((bytes : List ℕ) × NotedAnswer (Edits (SetInput name (input bytes))) old text new)
    ⊎ (IsTrue (is_input_name name) × IsUnhad (codes "Unread ") text × (new ≡ old))

-- a file that is there was written or not, and one that is not there is refused
abbrev pub SavesSome : Result (List ℕ) QueryFault → (text : List ℕ) → Type 0
SavesSome (Ok file) text = (text ≡ codes "ok\n") ⊎ IsUnhad (codes "Unwritten ") text
SavesSome (Err f) text = text ≡ query_answer (Err f)

-- ---- runs and reads

abbrev pub place_words : List ℕ → List ℕ
place_words places = flat_map (λ p. codes " " ++ decimal p) places

-- how many cells ran in the last edit that was done, and their places
abbrev pub ran_answer : List ℕ → List ℕ
ran_answer places = codes "ran " ++ decimal (length places) ++ place_words places ++ codes "\n"

-- a dash where no cell is told
abbrev pub cell_text : Option ℕ → List ℕ
cell_text None = codes "-"
cell_text (Some at) = decimal at

abbrev pub name_lines : List (List ℕ × Option ℕ) → List ℕ
name_lines names = flat_map (λ (n : List ℕ × Option ℕ). codes "name " ++ n.0 ++ codes " " ++ cell_text n.1 ++ codes "\n") names

abbrev pub input_lines : List (List ℕ) → List ℕ
input_lines names = flat_map (λ n. codes "input " ++ n ++ codes "\n") names

abbrev pub block_lines : List BlockRead → List ℕ
block_lines blocks = flat_map (λ (b : BlockRead). codes "block " ++ cell_text b.maker ++ codes " " ++ decimal b.number ++ codes " " ++ cell_text b.writer ++ codes "\n") blocks

-- how many lines there are, and a line for each name, input and base
abbrev pub reads_answer : CellReads → List ℕ
reads_answer r =
    codes "reads " ++ decimal (length r.names + length r.inputs + length r.blocks) ++ codes "\n"
    ++ name_lines r.names ++ input_lines r.inputs ++ block_lines r.blocks

abbrev pub TellsSomeReads : Book → (at : ℕ) → (text : List ℕ) → Type 0
TellsSomeReads b at text = (r : Result CellReads QueryFault) × TellsReads b at r × (text ≡ query_answer (with_text reads_answer r))

-- ---- edits that are made as one

-- the number of the edit that is refused, and why it is
abbrev pub refused_answer : RefusedEdit → List ℕ
refused_answer r = refused_line (decimal r.number ++ codes " " ++ edit_fault_text r.fault)

-- all of them were made, or memory was wanted and none was; stale cells alone ran
abbrev pub MakesTogether : List Edit → Noted → (text : List ℕ) → Noted → Type 0
MakesTogether es old text new =
    CountsStale old.tally.book (edits es old.tally.book) old.tally.count new.tally.count
    × (((text ≡ codes "ok\n") × (new.tally.book ≡ edits es old.tally.book) × AreStale old.tally.book new.tally.book new.ran)
    ⊎ ((text ≡ out_of_memory) × (new.tally.book ≡ old.tally.book) × (new.ran ≡ old.ran)))

-- where one of them is refused, none is made
abbrev pub TogetherGives : Option RefusedEdit → List Edit → Noted → (text : List ℕ) → Noted → Type 0
TogetherGives None es old text new = MakesTogether es old text new
TogetherGives (Some r) es old text new = (text ≡ refused_answer r) × (new ≡ old)

-- ---- commands

-- WHAT A COMMAND MAY ANSWER, with the notebook, the meter and the cells that ran after it
abbrev pub Gives : Command → Noted → (text : List ℕ) → Noted → Type 0
Gives (Plain c) old text new = NotedAnswer c old text new
Gives AsksWords old text new = (text ≡ codes "words begin end file part ran raw reads save try type\n") × (new ≡ old)
Gives AsksRan old text new = (text ≡ ran_answer old.ran) × (new ≡ old)
Gives (AsksReads at) old text new = TellsSomeReads old.tally.book at text × (new ≡ old)
Gives (AsksType at name) old text new = TellsValue type_answer (value_at old.tally.book at name) text × (new ≡ old)
Gives (AsksPart at name index) old text new = TellsValue (λ v. part_answer (part_of index v)) (value_at old.tally.book at name) text × (new ≡ old)
Gives (Tries at source) old text new =
    (outcome : Result CellResult EditFault) × TellsTried outcome (tried at source old.tally.book) × CountsTried outcome old.tally.count new.tally.count
    × (text ≡ tried_answer outcome) × (new.tally.book ≡ old.tally.book) × (new.ran ≡ old.ran)
Gives (SetsFile name path) old text new = SetsSome Npy name old text new
Gives (SetsRaw name path format itemsize shape strides offset) old text new = SetsSome (Buffer format itemsize shape strides offset) name old text new
Gives (SavesFile at name path) old text new = SavesSome (saved_at old.tally.book at name) text × (new ≡ old)
Gives (Together es) old text new = TogetherGives (first_refused 0 es old.tally.book) es old text new

-- THE LANGUAGE OF A DESK: the commands of every script and words for front ends, counted on the meter, with the cells that ran
abbrev pub desk : Language
desk = record { Command = Command; Stage = Stage; State = Noted; step = step; left_open = left_open; gives = Gives }
