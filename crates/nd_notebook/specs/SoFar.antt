-- Several edits that are made as one, of which some are made so far.
use Rattle.std.specs.Prelude.{◌≡◌, ℕ, Bool, not, List, length, is_none, Option, Some, None, Result, Ok, Err}
use Rattle.nd_model.specs.Cells.Session.{lookup}
use Rattle.nd_model.specs.Book.Book as model
use Rattle.nd_model.specs.Book.Notebook.{Setting, Sheet, book_of, edited_given, edited_sheet}
use Rattle.nd_schedule.specs.Cells.Source.{sheet}
use Rattle.nd_session.specs.Inputs.Values.{given_of, rule_of}
use Rattle.nd_notebook.specs.Edits.{edit_fault_of, name_in}
use Rattle.nd_notebook.specs.declared.edit.EditFault.{EditFault}
use Rattle.nd_notebook.specs.declared.together.Gathered.{Gathered}
use Rattle.nd_notebook.specs.declared.world.World.{World}

-- why an edit is refused, by the answer to it
abbrev pub fault_of : {X : Type 0} → model.Edit → Result X EditFault → Option model.EditFault
fault_of e (Ok done) = None
fault_of e (Err f) = Some (edit_fault_of (name_in e) f)

-- WHAT IS TOLD OF AN EDIT before it is made: why it is refused, or else how many cells there are after it
abbrev pub IsChecked : model.Edit → Sheet → Result ℕ EditFault → Type 0
IsChecked e s (Ok count) = (model.refusal e (book_of s) ≡ None) × (count ≡ length (edited_sheet e s).cells)
IsChecked e s (Err f) = model.refusal e (book_of s) ≡ Some (edit_fault_of (name_in e) f)

-- whether an input has a name after an edit, where the edit decides it; else the input is what it was before
abbrev pub LeavesInput : (name : List ℕ) → model.Edit → Option Bool → Type 0
LeavesInput name e None = (given : Setting) → lookup name (edited_given e given).inputs ≡ lookup name given.inputs
LeavesInput name e (Some has) = (given : Setting) → is_none (lookup name (edited_given e given).inputs) ≡ not has

abbrev pub setting_of : World → Setting
setting_of w = record { inputs = given_of w.inputs.entries; rule = rule_of w.rule }

-- what the cells are to be run by, where the edits leave another, or leave it as it is
abbrev pub given_by : Setting → Option World → Setting
given_by given None = given
given_by given (Some w) = setting_of w

-- the notebook as the edits so far will leave it
abbrev pub so_far : Sheet → Gathered → Sheet
so_far old g = sheet g.draft (given_by old.given g.world)
