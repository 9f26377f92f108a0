-- What the commands of the program stand for.
use Rattle.std.specs.Prelude.{ℕ, List, [], ◌∷◌}
use Rattle.nd_model.specs.Book.Book as book
use Rattle.nd_model.specs.Cells.Running as running
use Rattle.nd_model.specs.Book.Script as script
use Rattle.nd_input.specs.Sources.{source_of}
use Rattle.nd_script.specs.declared.words.command.LineCommand.{LineCommand}
use Rattle.nd_script.specs.declared.words.command.LineCommand.TheVariants.{Insert, Edit, Remove, Move, Show, Source, Names, Value, Saved, SetInput, DropInput, PythonRule, AtomicRule, Count, Silent, Bad}
use Rattle.nd_script.specs.declared.words.input.BufferWords.{BufferWords}

-- the words of a buffer, in order
abbrev pub words_in : BufferWords → List (List ℕ)
words_in w = w.format.now ∷ w.itemsize.now ∷ w.shape.now ∷ w.strides.now ∷ w.offset.now ∷ w.bytes.now ∷ []

abbrev pub line_of : LineCommand → script.Line
line_of (Insert at) = script.Opens (script.Inserting at)
line_of (Edit at) = script.Opens (script.Changing at)
line_of (Remove at) = script.Whole (script.Edits (book.Remove at))
line_of (Move from to) = script.Whole (script.Edits (book.Move from to))
line_of (Show at) = script.Whole (script.Asks (script.Shows at))
line_of (Source at) = script.Whole (script.Asks (script.ShowsSource at))
line_of (Names at) = script.Whole (script.Asks (script.ShowsNames at))
line_of (Value at name) = script.Whole (script.Asks (script.ShowsValue at name.now))
line_of (Saved at name) = script.Whole (script.Asks (script.ShowsSave at name.now))
line_of (SetInput name input) = script.Whole (script.Edits (book.SetInput name.now (source_of input)))
line_of (DropInput name) = script.Whole (script.Edits (book.DropInput name.now))
line_of PythonRule = script.Whole (script.Edits (book.SetRule running.Python))
line_of AtomicRule = script.Whole (script.Edits (book.SetRule running.Atomic))
line_of Count = script.Whole (script.Asks script.Counts)
line_of Silent = script.Whole script.Silent
line_of Bad = script.Whole script.Bad
