-- Scripts: their lines, their commands, and what is answered.
use Rattle.std.specs.Prelude.{◌≡◌, ℕ, zero, suc, ℤ, pos, negsuc, ◌+◌, ◌-◌, ◌*◌, ◌/◌, ◌%◌, ◌^◌, ◌==◌, ◌⊎◌, Bool, true, false, ◌&&◌, IsTrue, nat_le, nat_lt, bytes_eq, is_none, if◌then◌else◌, List, [], ◌∷◌, ◌++◌, length, map, option_map, slice_index, codes, decimal, Option, Some, None, Result, Ok, Err}
use Rattle.std.specs.Fmt.{signed_decimal}
use Rattle.std.specs.Str.{is_utf8}
use Rattle.std.specs.Str.Parse.{digits_value}
use Rattle.std.specs.List.{slice_split, join_with_byte, flat_map}
use Rattle.nd_model.specs.Cells.Running.{Source, Npy, Buffer, Python, Atomic}
use Rattle.nd_model.specs.Arrays.View.{item_size}
use Rattle.nd_model.specs.Text.Text.{truth_text, joined}
use Rattle.nd_model.specs.Cells.Cell.{Saved}
use Rattle.nd_model.specs.Cells.Fault.{Refusal}
use Rattle.nd_model.specs.Text.FaultText.{edit_fault_text, query_fault_text, refusal_text}
use Rattle.nd_model.specs.Formats.Format.{format_text, kind_text}
use Rattle.nd_model.specs.Book.Renaming.{Shown, ShownInt, ShownTruth, ShownScalar, ShownArray, ShownRow}
use Rattle.nd_model.specs.Book.Book.{Book, count_of, Edit, Insert, Change, Move, Remove, SetInput, DropInput, SetRule, EditFault, refusal, after_edit, QueryFault, CellResult, source_at, result_at, names_at, value_at, saved_at}

-- ---- lines and words

-- what stands behind the last newline is a line only where it is not empty
abbrev pub last_line : List ℕ → List (List ℕ)
last_line [] = []
last_line (c ∷ cs) = (c ∷ cs) ∷ []

abbrev pub without_empty_end : List (List ℕ) → List (List ℕ)
without_empty_end [] = []
without_empty_end (l ∷ []) = last_line l
without_empty_end (l ∷ m ∷ ls) = l ∷ without_empty_end (m ∷ ls)

-- the lines of a script: each ends with a newline, which the last may lack
abbrev pub lines_of : List ℕ → List (List ℕ)
lines_of script = without_empty_end (slice_split (λ c. c == 10) script)

-- the words of a line: between two stands a single space, so that two spaces have an empty word between them
abbrev pub words_of : List ℕ → List (List ℕ)
words_of line = slice_split (λ c. c == 32) line

-- A number is the decimal text of a number below 2^64.
abbrev pub number_word : List ℕ → Option ℕ
number_word word = let n = digits_value 10 word in if nat_lt n (2 ^ 64) && bytes_eq word (decimal n) then Some n else None

-- A list of numbers has a comma between two of them; `()` is the list of none.
abbrev pub also : {Y : Type 0} → Option Y → Option (List Y) → Option (List Y)
also None ys = None
also (Some y) None = None
also (Some y) (Some ys) = Some (y ∷ ys)

abbrev pub every : {X Y : Type 0} → (X → Option Y) → List X → Option (List Y)
every read [] = Some []
every read (x ∷ xs) = also (read x) (every read xs)

abbrev pub list_word : {Y : Type 0} → (List ℕ → Option Y) → List ℕ → Option (List Y)
list_word read word = if bytes_eq word (codes "()") then Some [] else every read (slice_split (λ c. c == 44) word)

-- An integer of 64 bits is such a number below 2^63, or one from 1 to 2^63 behind a minus sign.
abbrev pub positive : Option ℕ → Option ℤ
positive None = None
positive (Some n) = if nat_lt n (2 ^ 63) then Some (pos n) else None

abbrev pub negative : Option ℕ → Option ℤ
negative None = None
negative (Some zero) = None
negative (Some (suc n)) = if nat_lt n (2 ^ 63) then Some (negsuc n) else None

abbrev pub integer_word : List ℕ → Option ℤ
integer_word [] = None
integer_word (c ∷ cs) = if c == 45 then negative (number_word cs) else positive (number_word (c ∷ cs))

-- Bytes are two hex digits each, in either case; a dash is no bytes.
abbrev pub hex_value : ℕ → Option ℕ
hex_value c =
    if nat_le 65 c && nat_le c 70 then Some (c - 55)
    else if nat_le 97 c && nat_le c 102 then Some (c - 87)
    else if nat_le 48 c && nat_le c 57 then Some (c - 48)
    else None

abbrev pub hex_byte : Option ℕ → Option ℕ → Option ℕ
hex_byte (Some high) (Some low) = Some (high * 16 + low)
hex_byte (Some high) None = None
hex_byte None low = None

abbrev pub hex_bytes : List ℕ → Option (List ℕ)
hex_bytes [] = Some []
hex_bytes (c ∷ []) = None
hex_bytes (c ∷ d ∷ cs) = also (hex_byte (hex_value c) (hex_value d)) (hex_bytes cs)

abbrev pub hex_word : List ℕ → Option (List ℕ)
hex_word [] = None
hex_word (c ∷ cs) = if bytes_eq (c ∷ cs) (codes "-") then Some [] else hex_bytes (c ∷ cs)

-- ---- commands

-- what a script may ask of a notebook
pub data Query : Type 0 where
  Shows : (at : ℕ) → Query
  ShowsSource : (at : ℕ) → Query
  ShowsNames : (at : ℕ) → Query
  ShowsValue : (at : ℕ) → (name : List ℕ) → Query
  ShowsSave : (at : ℕ) → (name : List ℕ) → Query
  Counts : Query

pub data Command : Type 0 where
  Edits : Edit → Command
  Asks : Query → Command
  -- an empty line, or a comment
  Silent : Command
  Bad : Command

-- an edit whose source stands in the lines that follow
pub data Opening : Type 0 where
  Inserting : (at : ℕ) → Opening
  Changing : (at : ℕ) → Opening

-- a line by itself: a whole command, or the opening of one
pub data Line : Type 0 where
  Whole : Command → Line
  Opens : Opening → Line

-- a word that is no number makes its line bad
abbrev pub with_number : Option ℕ → (ℕ → Line) → Line
with_number None line = Whole Bad
with_number (Some n) line = line n

-- a command of a word and a place
abbrev pub placed_line : List ℕ → ℕ → Line
placed_line word at =
    if bytes_eq word (codes "insert") then Opens (Inserting at)
    else if bytes_eq word (codes "edit") then Opens (Changing at)
    else if bytes_eq word (codes "remove") then Whole (Edits (Remove at))
    else if bytes_eq word (codes "show") then Whole (Asks (Shows at))
    else if bytes_eq word (codes "source") then Whole (Asks (ShowsSource at))
    else if bytes_eq word (codes "names") then Whole (Asks (ShowsNames at))
    else Whole Bad

abbrev pub move_line : ℕ → ℕ → Line
move_line from to = Whole (Edits (Move from to))

-- a name is any word but the empty one
abbrev pub value_line : List ℕ → ℕ → Line
value_line [] at = Whole Bad
value_line (c ∷ cs) at = Whole (Asks (ShowsValue at (c ∷ cs)))

abbrev pub save_line : List ℕ → ℕ → Line
save_line [] at = Whole Bad
save_line (c ∷ cs) at = Whole (Asks (ShowsSave at (c ∷ cs)))

-- so is that of an input
abbrev pub drop_line : List ℕ → Line
drop_line [] = Whole Bad
drop_line (c ∷ cs) = Whole (Edits (DropInput (c ∷ cs)))

-- a strided buffer: its format, its item size, its lengths, its strides, its offset and its bytes
abbrev pub buffer_of : List ℕ → Option ℕ → Option (List ℕ) → Option (List ℤ) → Option ℕ → Option (List ℕ) → Option Source
buffer_of (c ∷ cs) (Some itemsize) (Some shape) (Some strides) (Some offset) (Some bytes) =
    Some (Buffer (c ∷ cs) itemsize shape strides offset bytes)
buffer_of _ _ _ _ _ _ = None

-- an input by the word that says what it is, and those behind it
abbrev pub input_of_words : List ℕ → List (List ℕ) → Option Source
input_of_words kind (hex ∷ []) = if bytes_eq kind (codes "npy") then option_map Npy (hex_word hex) else None
input_of_words kind (format ∷ itemsize ∷ shape ∷ strides ∷ offset ∷ hex ∷ []) =
    if bytes_eq kind (codes "buffer")
    then buffer_of format (number_word itemsize) (list_word number_word shape) (list_word integer_word strides) (number_word offset) (hex_word hex)
    else None
input_of_words kind _ = None

abbrev pub input_line : List ℕ → Option Source → Line
input_line [] input = Whole Bad
input_line (c ∷ cs) None = Whole Bad
input_line (c ∷ cs) (Some input) = Whole (Edits (SetInput (c ∷ cs) input))

abbrev pub rule_line : List ℕ → Line
rule_line rule =
    if bytes_eq rule (codes "python") then Whole (Edits (SetRule Python))
    else if bytes_eq rule (codes "atomic") then Whole (Edits (SetRule Atomic))
    else Whole Bad

abbrev pub line_of_words : List (List ℕ) → Line
line_of_words [] = Whole Bad
line_of_words (word ∷ []) = if bytes_eq word (codes "count") then Whole (Asks Counts) else Whole Bad
line_of_words (word ∷ a ∷ []) =
    if bytes_eq word (codes "drop") then drop_line a
    else if bytes_eq word (codes "rule") then rule_line a
    else with_number (number_word a) (placed_line word)
line_of_words (word ∷ a ∷ b ∷ []) =
    if bytes_eq word (codes "move") then with_number (number_word a) (λ from. with_number (number_word b) (move_line from))
    else if bytes_eq word (codes "value") then with_number (number_word a) (value_line b)
    else if bytes_eq word (codes "saved") then with_number (number_word a) (save_line b)
    else Whole Bad
line_of_words (word ∷ a ∷ b ∷ c ∷ more) =
    if bytes_eq word (codes "input") then input_line a (input_of_words b (c ∷ more)) else Whole Bad

-- WHAT A LINE SAYS, outside a source. Behind a `#` (35) it is not looked at.
abbrev pub read_line : List ℕ → Line
read_line [] = Whole Silent
read_line (c ∷ cs) =
    if c == 35 then Whole Silent
    else if is_utf8 (c ∷ cs) then line_of_words (words_of (c ∷ cs))
    else Whole Bad

-- the edit of an opening with its source
abbrev pub with_source : Opening → List ℕ → Edit
with_source (Inserting at) source = Insert at source
with_source (Changing at) source = Change at source

-- A source is its lines with a newline between two of them.
abbrev pub source_of : List (List ℕ) → List ℕ
source_of ls = join_with_byte 10 ls

-- the command of an opening and the lines of its source
abbrev pub closed : Opening → List (List ℕ) → Command
closed o ls = if is_utf8 (source_of ls) then Edits (with_source o (source_of ls)) else Bad

-- where a script stands: between two commands, or behind an opening and some lines of its source
pub data Stage : Type 0 where
  Between : Stage
  Within : Opening → (before : List (List ℕ)) → Stage

-- the line that ends a source
abbrev pub is_dot : List ℕ → Bool
is_dot l = bytes_eq l (codes ".")

-- the commands that a line completes, and where the script stands behind it
abbrev pub step_of_line : Line → List Command × Stage
step_of_line (Whole c) = (c ∷ [], Between)
step_of_line (Opens o) = ([], Within o [])

abbrev pub step : Stage → List ℕ → List Command × Stage
step Between l = step_of_line (read_line l)
step (Within o before) l = if is_dot l then (closed o before ∷ [], Between) else ([], Within o (before ++ l ∷ []))

-- a source without its end is no command
abbrev pub left_open : Stage → List Command
left_open Between = []
left_open (Within o before) = Bad ∷ []

-- the commands of the lines from here on
abbrev pub commands_from : Stage → List (List ℕ) → List Command
commands_from s [] = left_open s
commands_from s (l ∷ ls) = (step s l).0 ++ commands_from (step s l).1 ls

-- THE COMMANDS OF A SCRIPT
abbrev pub commands : List ℕ → List Command
commands script = commands_from Between (lines_of script)

-- ---- a script of which some bytes were given

-- all but the last
abbrev pub without_last : {X : Type 0} → List X → List X
without_last [] = []
without_last (x ∷ []) = []
without_last (x ∷ y ∷ ys) = x ∷ without_last (y ∷ ys)

-- the lines of which the newline, too, is among the bytes: what stands behind the last newline is none of them
abbrev pub ended_lines : List ℕ → List (List ℕ)
ended_lines bytes = without_last (slice_split (λ c. c == 10) bytes)

-- the commands that the lines from here on complete: a source without its end is no command yet
abbrev pub completed_from : Stage → List (List ℕ) → List Command
completed_from s [] = []
completed_from s (l ∷ ls) = (step s l).0 ++ completed_from (step s l).1 ls

-- THE COMMANDS THAT ARE COMPLETE in the bytes given: those of the lines that have ended
abbrev pub completed : List ℕ → List Command
completed given = completed_from Between (ended_lines given)

-- ---- texts of values

abbrev pub hex_digit : ℕ → ℕ
hex_digit n = slice_index (codes "0123456789abcdef") n

abbrev pub hex_digits : List ℕ → List ℕ
hex_digits [] = []
hex_digits (b ∷ bs) = hex_digit (b / 16) ∷ hex_digit (b % 16) ∷ hex_digits bs

-- no bytes are a dash
abbrev pub hex_text : List ℕ → List ℕ
hex_text [] = codes "-"
hex_text (b ∷ bs) = hex_digits (b ∷ bs)

abbrev pub shape_text : List ℕ → List ℕ
shape_text [] = codes "()"
shape_text (n ∷ ns) = joined (codes ",") (map decimal (n ∷ ns))

abbrev pub shown_text : Shown → List ℕ
shown_text (ShownInt z) = codes "int " ++ signed_decimal z
shown_text (ShownTruth t) = codes "bool " ++ truth_text t
shown_text (ShownScalar k z) = codes "scalar " ++ kind_text k ++ codes " " ++ signed_decimal z
shown_text (ShownArray t shape bytes) = codes "array " ++ format_text t ++ codes " " ++ decimal (item_size t) ++ codes " " ++ shape_text shape ++ codes " " ++ hex_text bytes
shown_text (ShownRow t bytes) = codes "row " ++ format_text t ++ codes " " ++ decimal (item_size t) ++ codes " " ++ hex_text bytes

-- ---- answers

abbrev pub refused_line : List ℕ → List ℕ
refused_line fault = codes "refused " ++ fault ++ codes "\n"

abbrev pub ok_or_refused : Option (ℕ × Refusal) → List ℕ
ok_or_refused None = codes "ok\n"
ok_or_refused (Some r) = refused_line (decimal r.0 ++ codes " " ++ refusal_text r.1)

abbrev pub save_lines : Saved → List ℕ
save_lines saves = flat_map (λ (f : List ℕ × List ℕ). codes "save " ++ f.0 ++ codes " " ++ decimal (length f.1) ++ codes "\n") saves

abbrev pub result_answer : CellResult → List ℕ
result_answer r = codes "text " ++ decimal (length r.text) ++ codes "\n" ++ r.text ++ ok_or_refused r.refusal ++ save_lines r.saves ++ codes "end\n"

abbrev pub source_answer : List ℕ → List ℕ
source_answer source = codes "source " ++ decimal (length source) ++ codes "\n" ++ source ++ codes "\n"

abbrev pub name_lines : List (List ℕ) → List ℕ
name_lines names = flat_map (λ n. n ++ codes "\n") names

abbrev pub names_answer : List (List ℕ) → List ℕ
names_answer names = codes "names " ++ decimal (length names) ++ codes "\n" ++ name_lines names

abbrev pub value_answer : Shown → List ℕ
value_answer v = shown_text v ++ codes "\n"

abbrev pub save_answer : List ℕ → List ℕ
save_answer file = codes "saved " ++ hex_text file ++ codes "\n"

abbrev pub count_answer : ℕ → List ℕ
count_answer n = codes "count " ++ decimal n ++ codes "\n"

abbrev pub edit_answer : Option EditFault → List ℕ
edit_answer None = codes "ok\n"
edit_answer (Some f) = refused_line (edit_fault_text f)

-- the answer as bytes
abbrev pub with_text : {X : Type 0} → (X → List ℕ) → Result X QueryFault → Result (List ℕ) QueryFault
with_text text (Ok x) = Ok (text x)
with_text text (Err f) = Err f

-- WHAT A QUERY GIVES
abbrev pub query : Query → Book → Result (List ℕ) QueryFault
query (Shows at) b = with_text result_answer (result_at b at)
query (ShowsSource at) b = with_text source_answer (source_at b at)
query (ShowsNames at) b = with_text names_answer (names_at b at)
query (ShowsValue at name) b = with_text value_answer (value_at b at name)
query (ShowsSave at name) b = with_text save_answer (saved_at b at name)
query Counts b = Ok (count_answer (count_of b))

-- names and values are made for their answer, which takes memory
abbrev pub takes_memory : Query → Bool
takes_memory (ShowsNames at) = true
takes_memory (ShowsValue at name) = true
takes_memory _ = false

abbrev pub query_answer : Result (List ℕ) QueryFault → List ℕ
query_answer (Ok text) = text
query_answer (Err f) = refused_line (query_fault_text f)

-- the bytes that answer a command, memory aside
abbrev pub answer : Command → Book → List ℕ
answer (Edits e) b = edit_answer (refusal e b)
answer (Asks q) b = query_answer (query q b)
answer Silent b = []
answer Bad b = codes "bad command\n"

-- the notebook after a command, memory aside
abbrev pub after_command : Command → Book → Book
after_command (Edits e) b = after_edit e b
after_command (Asks q) b = b
after_command Silent b = b
after_command Bad b = b

abbrev pub succeeds : {X : Type 0} → Result X QueryFault → Bool
succeeds (Ok x) = true
succeeds (Err f) = false

-- Memory may be wanted where an edit would be answered `ok`, and where names or a value would be shown.
abbrev pub may_want_memory : Command → Book → Bool
may_want_memory (Edits e) b = is_none (refusal e b)
may_want_memory (Asks q) b = takes_memory q && succeeds (query q b)
may_want_memory Silent b = false
may_want_memory Bad b = false

-- WHAT A COMMAND MAY ANSWER, and the notebook after it: where memory is wanted, nothing changes
abbrev pub Answer : Command → Book → List ℕ → Book → Type 0
Answer c b text next =
    ((text ≡ answer c b) × (next ≡ after_command c b))
    ⊎ (IsTrue (may_want_memory c b) × (text ≡ refused_line (codes "OutOfMemory")) × (next ≡ b))

-- WHAT COMMANDS MAY ANSWER, one after the other, and the notebook after them
abbrev pub Answers : List Command → Book → List ℕ → Book → Type 0
Answers [] b text last = (text ≡ []) × (last ≡ b)
Answers (c ∷ cs) b text last =
    (first : List ℕ) × (rest : List ℕ) × (next : Book) × (text ≡ first ++ rest) × Answer c b first next × Answers cs next rest last

-- ---- running a script

-- xs begins with the front
abbrev pub IsFront : {X : Type 0} → List X → List X → Type 0
IsFront {X} front xs = (rest : List X) × (xs ≡ front ++ rest)

-- the same, but that the last answer may be cut off
abbrev pub CutAnswers : List Command → Book → List ℕ → Book → Type 0
CutAnswers [] b text last = (text ≡ []) × (last ≡ b)
CutAnswers (c ∷ []) b text last = (whole : List ℕ) × IsFront text whole × Answer c b whole last
CutAnswers (c ∷ d ∷ cs) b text last =
    (first : List ℕ) × (rest : List ℕ) × (next : Book) × (text ≡ first ++ rest) × Answer c b first next × CutAnswers (d ∷ cs) next rest last

-- a script of which these bytes were given: all of it where it had come to its end
abbrev pub MayBeScript : (ended : Bool) → (given script : List ℕ) → Type 0
MayBeScript true given script = script ≡ given
MayBeScript false given script = IsFront given script

-- whatever else such a script has, these are its first commands
abbrev pub AreFirst : List Command → (ended : Bool) → (given : List ℕ) → Type 0
AreFirst executed ended given = (script : List ℕ) → MayBeScript ended given script → IsFront executed (commands script)

-- A RUN TO THE END of a script: what was written is the answers to all of it
abbrev pub RunsWhole : (script : List ℕ) → Book → (written : List ℕ) → Book → Type 0
RunsWhole script b written last = Answers (commands script) b written last

-- A RUN THAT STOPPED for what it read: the commands that are complete in these bytes were carried out, all of them and no
-- others, and what was written is their answers. Whatever else the script has, they are its first commands.
abbrev pub RunsCompleted : (given : List ℕ) → Book → (written : List ℕ) → Book → Type 0
RunsCompleted given b written last = AreFirst (completed given) false given × Answers (completed given) b written last

-- A RUN THAT STOPPED in the answer to the last of some commands
abbrev pub RunsCut : (ended : Bool) → (given : List ℕ) → Book → (written : List ℕ) → Book → Type 0
RunsCut ended given b written last = (executed : List Command) × AreFirst executed ended given × CutAnswers executed b written last
