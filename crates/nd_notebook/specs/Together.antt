-- Several edits that are made as one: all of them, or none.
use Rattle.std.specs.Prelude.{ℕ, suc, List, [], ◌∷◌, slice_get, string_bytes, Option, Some, None}
use Rattle.nd_model.specs.Book.Book as model
use Rattle.nd_model.specs.Book.Notebook.{Sheet, edited_sheet}
use Rattle.nd_input.specs.Sources.{source_of}
use Rattle.nd_session.specs.Inputs.Values.{rule_of}
use Rattle.nd_notebook.specs.Edits.{edit_fault_of, name_in}
use Rattle.nd_notebook.specs.declared.together.OwnedEdit.{OwnedEdit}
use Rattle.nd_notebook.specs.declared.together.OwnedEdit.TheVariants as owned
use Rattle.nd_notebook.specs.declared.together.RefusedEdit as declared

-- an edit that is refused, by its number from the first, which has 0, and why it is
pub record RefusedEdit : Type 0 where
  pub number : ℕ
  pub fault : model.EditFault

-- what decides is the edit of this number where it is refused, and else what follows
abbrev pub refused_or : Option model.EditFault → (number : ℕ) → Option RefusedEdit → Option RefusedEdit
refused_or None number behind = behind
refused_or (Some f) number behind = Some (record { number = number; fault = f })

-- THE FIRST EDIT THAT IS REFUSED, where they are made one after the other, from this number on
abbrev pub first_refused : (number : ℕ) → List model.Edit → model.Book → Option RefusedEdit
first_refused number [] b = None
first_refused number (e ∷ es) b = refused_or (model.refusal e b) number (first_refused (suc number) es (model.edited e b))

-- THE NOTEBOOK AFTER SEVERAL EDITS, of which none is refused
abbrev pub edited_all : List model.Edit → Sheet → Sheet
edited_all [] s = s
edited_all (e ∷ es) s = edited_all es (edited_sheet e s)

-- ---- as the program has them

abbrev pub owned_edit_of : OwnedEdit → model.Edit
owned_edit_of (owned.Insert at source) = model.Insert at (string_bytes source)
owned_edit_of (owned.Change at source) = model.Change at (string_bytes source)
owned_edit_of (owned.Move from to) = model.Move from to
owned_edit_of (owned.Remove at) = model.Remove at
owned_edit_of (owned.SetInput name input) = model.SetInput (string_bytes name) (source_of input)
owned_edit_of (owned.DropInput name) = model.DropInput (string_bytes name)
owned_edit_of (owned.SetRule rule) = model.SetRule (rule_of rule)

abbrev pub name_in_owned : Option OwnedEdit → List ℕ
name_in_owned None = []
name_in_owned (Some e) = name_in (owned_edit_of e)

-- an edit of these that is refused
abbrev pub refused_of : List OwnedEdit → declared.RefusedEdit → RefusedEdit
refused_of es r = record { number = r.number; fault = edit_fault_of (name_in_owned (slice_get es r.number)) r.fault }
