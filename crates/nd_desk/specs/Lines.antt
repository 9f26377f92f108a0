-- What the lines of the program stand for.
use Rattle.std.specs.Prelude.{◌≡◌, ℕ, ℤ, ◌==◌, List, [], ◌∷◌, Option, Some, None, unwrap_or}
use Rattle.std.specs.List.{slice_split}
use Rattle.nd_model.specs.Cells.Running.{Source, Npy, Buffer}
use Rattle.nd_model.specs.Indexing.Selecting.{Item}
use Rattle.nd_model.specs.Book.Script.{number_word, integer_word, list_word}
use Rattle.nd_desk.specs.Words as words
use Rattle.nd_desk.specs.Words.{index_word}
use Rattle.nd_desk.specs.declared.form.FileForm.{FileForm}
use Rattle.nd_desk.specs.declared.form.FileForm.TheVariants as forms
use Rattle.nd_desk.specs.declared.raw.RawWords.{RawWords}
use Rattle.nd_desk.specs.declared.word.DeskLine.{DeskLine}
use Rattle.nd_desk.specs.declared.word.DeskLine.TheVariants.{Try, Begin, Word}
use Rattle.nd_desk.specs.declared.word.DeskWord.{DeskWord}
use Rattle.nd_desk.specs.declared.word.DeskWord.TheVariants.{Words, Ran, Reads, Dtype, Part, SetFile, SaveFile}

-- ---- lists that stay as they are written

-- the numbers of a list, and none where it is malformed
abbrev pub list_in : {Y : Type 0} → (List ℕ → Option Y) → List ℕ → List Y
list_in read word = unwrap_or (list_word read word) []

-- the items of an index, and none where it is malformed
abbrev pub items_in : List ℕ → List Item
items_in word = unwrap_or (index_word word) []

-- ---- words of a line

-- the bounds of a slice, as they are written
abbrev pub bounds_of : List ℕ → List (List ℕ)
bounds_of word = slice_split (λ c. c == 58) word

abbrev pub bounds_behind : Option (List ℕ) → List (List ℕ)
bounds_behind None = []
bounds_behind (Some rest) = bounds_of rest

-- the words behind `raw`, where there are six
abbrev pub words_in : RawWords → List (List ℕ)
words_in w = w.path.now ∷ w.format.now ∷ w.itemsize.now ∷ w.shape.now ∷ w.strides.now ∷ w.offset.now ∷ []

abbrev pub six_of : List (List ℕ) → Option (List (List ℕ))
six_of (a ∷ b ∷ c ∷ d ∷ e ∷ f ∷ []) = Some (a ∷ b ∷ c ∷ d ∷ e ∷ f ∷ [])
six_of _ = None

-- ---- commands

-- the input that bytes of this form are
abbrev pub input_of : FileForm → (bytes : List ℕ) → Source
input_of forms.Npy bytes = Npy bytes
input_of (forms.Raw format itemsize shape strides offset) bytes =
    Buffer format.now itemsize (list_in number_word shape.now) (list_in integer_word strides.now) offset bytes

-- The input has the form, with some bytes.
abbrev pub IsOfForm : FileForm → Source → Type 0
IsOfForm form source = (bytes : List ℕ) × (source ≡ input_of form bytes)

abbrev pub sets : (name path : List ℕ) → FileForm → words.Command
sets name path forms.Npy = words.SetsFile name path
sets name path (forms.Raw format itemsize shape strides offset) =
    words.SetsRaw name path format.now itemsize (list_in number_word shape.now) (list_in integer_word strides.now) offset

abbrev pub command_of : DeskWord → words.Command
command_of Words = words.AsksWords
command_of Ran = words.AsksRan
command_of (Reads at) = words.AsksReads at
command_of (Dtype at name) = words.AsksType at name.now
command_of (Part at name index) = words.AsksPart at name.now (items_in index.now)
command_of (SetFile name path form) = sets name.now path.now form
command_of (SaveFile at name path) = words.SavesFile at name.now path.now

abbrev pub line_of : DeskLine → words.Line
line_of (Try at) = words.Opens at
line_of Begin = words.Begins
line_of (Word w) = words.Whole (command_of w)
