-- How edits are answered.
use Rattle.std.specs.Prelude.{ℕ, List, Some, None, Result, Ok, Err}
use Rattle.nd_model.specs.Book.Script as script
use Rattle.nd_notebook.specs.declared.edit.EditFault.{EditFault}
use Rattle.nd_notebook.specs.Edits.{edit_fault_of}

-- the answer to an edit of the input of a name, or of a cell
abbrev pub edit_answer_of : {X : Type 0} → List ℕ → Result X EditFault → List ℕ
edit_answer_of name (Ok done) = script.edit_answer None
edit_answer_of name (Err f) = script.edit_answer (Some (edit_fault_of name f))
