-- Scripts with words for front ends: what their lines say.
use Rattle.std.specs.Prelude.{ℕ, ℤ, Bool, ◌==◌, ◌&&◌, bytes_eq, if◌then◌else◌, List, [], ◌∷◌, ◌++◌, map, option_map, codes, Option, Some, None}
use Rattle.std.specs.Str.{is_utf8}
use Rattle.std.specs.List.{join_with_byte, slice_split}
use Rattle.nd_model.specs.Indexing.Selecting.{Item, At, Slice}
use Rattle.nd_model.specs.Book.Book.{Edit}
use Rattle.nd_model.specs.Book.Script as script
use Rattle.nd_model.specs.Book.Script.{number_word, integer_word, list_word, every, words_of, source_of, is_dot}

-- ---- commands

pub data Command : Type 0 where
  -- a command of every script
  Plain : script.Command → Command
  AsksWords : Command
  AsksRan : Command
  AsksReads : (at : ℕ) → Command
  AsksType : (at : ℕ) → (name : List ℕ) → Command
  AsksPart : (at : ℕ) → (name : List ℕ) → (index : List Item) → Command
  Tries : (at : ℕ) → (source : List ℕ) → Command
  SetsFile : (name path : List ℕ) → Command
  SetsRaw : (name path format : List ℕ) → (itemsize : ℕ) → (shape : List ℕ) → (strides : List ℤ) → (offset : ℕ) → Command
  SavesFile : (at : ℕ) → (name path : List ℕ) → Command
  -- edits that are made as one
  Together : List Edit → Command

-- Where a script stands: as every script, or in the text of a cell that is to be tried. Behind edits that are to be made as one it
-- may stand in the text of the next.
pub data Stage : Type 0 where
  Plainly : script.Stage → Stage
  Trying : (at : ℕ) → (before : List (List ℕ)) → Stage
  Gathering : List Edit → Stage
  GatheringText : List Edit → script.Opening → (before : List (List ℕ)) → Stage

-- ---- indexes

-- a bound of a slice is an integer, or is left out
abbrev pub bound_word : List ℕ → Option (Option ℤ)
bound_word [] = Some None
bound_word (c ∷ cs) = option_map Some (integer_word (c ∷ cs))

abbrev pub slice_of : (start stop step : Option (Option ℤ)) → Option Item
slice_of (Some start) (Some stop) (Some step) = Some (Slice start stop step)
slice_of _ _ _ = None

-- by what stands between colons: a whole number has none, a slice one or two
abbrev pub item_of_parts : List (List ℕ) → Option Item
item_of_parts [] = None
item_of_parts (number ∷ []) = option_map At (integer_word number)
item_of_parts (start ∷ stop ∷ []) = slice_of (bound_word start) (bound_word stop) (Some None)
item_of_parts (start ∷ stop ∷ step ∷ []) = slice_of (bound_word start) (bound_word stop) (bound_word step)
item_of_parts (start ∷ stop ∷ step ∷ more ∷ parts) = None

abbrev pub item_word : List ℕ → Option Item
item_word word = item_of_parts (slice_split (λ c. c == 58) word)

-- AN INDEX has whole numbers and slices, with a comma between two of them.
abbrev pub index_word : List ℕ → Option (List Item)
index_word word = every item_word (slice_split (λ c. c == 44) word)

-- ---- lines

-- what a line says by itself that is none of every script's commands
pub data Line : Type 0 where
  Whole : Command → Line
  Opens : (at : ℕ) → Line
  Begins : Line

abbrev pub placed : Option ℕ → (ℕ → Option Line) → Option Line
placed None line = None
placed (Some at) line = line at

abbrev pub try_line : ℕ → Option Line
try_line at = Some (Opens at)

abbrev pub reads_line : ℕ → Option Line
reads_line at = Some (Whole (AsksReads at))

abbrev pub lone_line : List ℕ → Option Line
lone_line word =
    if bytes_eq word (codes "words") then Some (Whole AsksWords)
    else if bytes_eq word (codes "ran") then Some (Whole AsksRan)
    else if bytes_eq word (codes "begin") then Some Begins
    else None

abbrev pub place_line : (word place : List ℕ) → Option Line
place_line word place =
    if bytes_eq word (codes "try") then placed (number_word place) try_line
    else if bytes_eq word (codes "reads") then placed (number_word place) reads_line
    else None

-- a name is any word but the empty one
abbrev pub type_line : List ℕ → ℕ → Option Line
type_line [] at = None
type_line (c ∷ cs) at = Some (Whole (AsksType at (c ∷ cs)))

-- so is a path, of one word or more
abbrev pub file_line : (name path : List ℕ) → Option Line
file_line [] path = None
file_line (c ∷ cs) [] = None
file_line (c ∷ cs) (p ∷ ps) = Some (Whole (SetsFile (c ∷ cs) (p ∷ ps)))

abbrev pub save_line : (name path : List ℕ) → ℕ → Option Line
save_line [] path at = None
save_line (c ∷ cs) [] at = None
save_line (c ∷ cs) (p ∷ ps) at = Some (Whole (SavesFile at (c ∷ cs) (p ∷ ps)))

-- a strided buffer but for its bytes: these are those of the file
abbrev pub raw_of : (name path format : List ℕ) → Option ℕ → Option (List ℕ) → Option (List ℤ) → Option ℕ → Option Line
raw_of (c ∷ cs) (p ∷ ps) (f ∷ fs) (Some itemsize) (Some shape) (Some strides) (Some offset) =
    Some (Whole (SetsRaw (c ∷ cs) (p ∷ ps) (f ∷ fs) itemsize shape strides offset))
raw_of _ _ _ _ _ _ _ = None

-- its path is one word
abbrev pub raw_line : (name : List ℕ) → (words : List (List ℕ)) → Option Line
raw_line name (path ∷ format ∷ itemsize ∷ shape ∷ strides ∷ offset ∷ []) =
    raw_of name path format (number_word itemsize) (list_word number_word shape) (list_word integer_word strides) (number_word offset)
raw_line name _ = None

abbrev pub part_of_index : ℕ → (name : List ℕ) → Option (List Item) → Option Line
part_of_index at name None = None
part_of_index at name (Some index) = Some (Whole (AsksPart at name index))

abbrev pub part_line : (name : List ℕ) → (words : List (List ℕ)) → ℕ → Option Line
part_line (c ∷ cs) (index ∷ []) at = part_of_index at (c ∷ cs) (index_word index)
part_line _ _ at = None

-- a path that ends its line has the words that are left, with a space between two of them
abbrev pub long_line : (word a b : List ℕ) → (words : List (List ℕ)) → Option Line
long_line word a b words =
    if bytes_eq word (codes "input") && bytes_eq b (codes "file") then file_line a (join_with_byte 32 words)
    else if bytes_eq word (codes "input") && bytes_eq b (codes "raw") then raw_line a words
    else if bytes_eq word (codes "save") then placed (number_word a) (save_line b (join_with_byte 32 words))
    else if bytes_eq word (codes "part") then placed (number_word a) (part_line b words)
    else None

abbrev pub line_of_words : List (List ℕ) → Option Line
line_of_words [] = None
line_of_words (word ∷ []) = lone_line word
line_of_words (word ∷ a ∷ []) = place_line word a
line_of_words (word ∷ a ∷ b ∷ []) = if bytes_eq word (codes "type") then placed (number_word a) (type_line b) else None
line_of_words (word ∷ a ∷ b ∷ c ∷ more) = long_line word a b (c ∷ more)

-- WHAT A LINE SAYS, outside a source, that is none of every script's commands
abbrev pub read_word : List ℕ → Option Line
read_word line = if is_utf8 line then line_of_words (words_of line) else None

-- ---- steps

-- commands of every script, and where it stands behind them
abbrev pub plainly : List script.Command × script.Stage → List Command × Stage
plainly cs = (map Plain cs.0, Plainly cs.1)

abbrev pub step_of_word : List ℕ → Option Line → List Command × Stage
step_of_word line None = plainly (script.step script.Between line)
step_of_word line (Some (Whole c)) = (c ∷ [], Plainly script.Between)
step_of_word line (Some (Opens at)) = ([], Trying at [])
step_of_word line (Some Begins) = ([], Gathering [])

-- the command of a text that is tried, once its lines are there
abbrev pub closed_try : (at : ℕ) → List (List ℕ) → Command
closed_try at ls = if is_utf8 (source_of ls) then Tries at (source_of ls) else Plain script.Bad

-- the line that ends edits which are made as one
abbrev pub is_end : List ℕ → Bool
is_end l = bytes_eq l (codes "end")

-- a command behind edits that are to be made as one: an edit is one of them, and a question or a word has no place there
abbrev pub gathered : List Edit → script.Command → List Command × Stage
gathered es (script.Edits e) = ([], Gathering (es ++ e ∷ []))
gathered es (script.Asks q) = (Plain script.Bad ∷ [], Gathering es)
gathered es script.Silent = ([], Gathering es)
gathered es script.Bad = (Plain script.Bad ∷ [], Gathering es)

abbrev pub gathered_line : List Edit → script.Line → List Command × Stage
gathered_line es (script.Whole c) = gathered es c
gathered_line es (script.Opens o) = ([], GatheringText es o [])

-- THE COMMANDS THAT A LINE COMPLETES, and where the script stands behind it
abbrev pub step : Stage → List ℕ → List Command × Stage
step (Plainly script.Between) l = step_of_word l (read_word l)
step (Plainly (script.Within o before)) l = plainly (script.step (script.Within o before) l)
step (Trying at before) l = if is_dot l then (closed_try at before ∷ [], Plainly script.Between) else ([], Trying at (before ++ l ∷ []))
step (Gathering es) l = if is_end l then (Together es ∷ [], Plainly script.Between) else gathered_line es (script.read_line l)
step (GatheringText es o before) l = if is_dot l then gathered es (script.closed o before) else ([], GatheringText es o (before ++ l ∷ []))

-- a text without its end is no command, and edits without their end are made in no part
abbrev pub left_open : Stage → List Command
left_open (Plainly s) = map Plain (script.left_open s)
left_open (Trying at before) = Plain script.Bad ∷ []
left_open (Gathering es) = Plain script.Bad ∷ []
left_open (GatheringText es o before) = Plain script.Bad ∷ []
