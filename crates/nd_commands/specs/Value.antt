-- Values as they are answered.
use Rattle.std.specs.Prelude.{◌⊎◌, codes}
use Rattle.nd_model.specs.Book.Renaming.{Shown, ShownArray, ShownRow}
use Rattle.nd_model.specs.Book.Script as script
use Rattle.nd_script.specs.Lines.Answers.{AnswerState, Pushes}
use Rattle.nd_notebook.specs.declared.query.ShownElements.{ShownElements}
use Rattle.nd_notebook.specs.Queries.{bytes_of}

-- what is shown of an array, and of a row
abbrev pub array_of : ShownElements → Shown
array_of e = ShownArray e.view.now.element e.view.now.shape (bytes_of e)

abbrev pub row_of : ShownElements → Shown
row_of e = ShownRow e.view.now.element (bytes_of e)

-- the value was appended, or that memory is wanted
abbrev pub PushesValue : Shown → AnswerState → AnswerState → Type 0
PushesValue v was now = Pushes was (script.value_answer v) now ⊎ Pushes was (script.refused_line (codes "OutOfMemory")) now
