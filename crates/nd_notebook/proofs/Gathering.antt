-- Edits of which none is refused, gathered one after another.
use Rattle.std.proofs.Common.{◌≡◌, ℕ, suc, List, ◌∷◌, map, Option, Some, None, refl, sym, ap, subst, ◌∙◌}
use Rattle.nd_heap.proofs.Plain.{none_some}
use Rattle.nd_model.specs.Book.Book as model
use Rattle.nd_model.specs.Book.Notebook.{Setting, Sheet, book_of, edited_sheet}
use Rattle.nd_model.specs.Cells.Running.{Rule, Source}
use Rattle.nd_model.proofs.EditBooks.{edits_book}
use Rattle.nd_schedule.specs.Cells.Source.{sheet}
use Rattle.nd_session.specs.Inputs.Values.{given_of}
use Rattle.nd_notebook.specs.SoFar.{setting_of}
use Rattle.nd_notebook.specs.Together.{RefusedEdit, edited_all, first_refused, owned_edit_of, refused_or}
use Rattle.nd_notebook.specs.declared.together.OwnedEdit.{OwnedEdit}
use Rattle.nd_notebook.specs.declared.world.World.{World}

-- none is refused, whatever the number of the first
abbrev pub NoneRefused : List model.Edit → Sheet → Type 0
NoneRefused es s = (n : ℕ) × (first_refused n es (book_of s) ≡ None)

none_behind : (o : Option model.EditFault) (n : ℕ) (behind : Option RefusedEdit) → refused_or o n behind ≡ None → behind ≡ None
none_behind None n behind h = h
none_behind (Some f) n behind h = none_some (record { number = n; fault = f }) (sym h)

rest_allowed : (e : model.Edit) (es : List model.Edit) (s : Sheet) → NoneRefused (e ∷ es) s → NoneRefused es (edited_sheet e s)
rest_allowed e es s none = (
  suc none.0,
  ap (first_refused (suc none.0) es) (edits_book e s)
      ∙ none_behind (model.refusal e (book_of s)) none.0 (first_refused (suc none.0) es (model.edited e (book_of s))) none.1,
)

-- ---- one edit more, of those that are left

module _ (left rest : List OwnedEdit) (d : OwnedEdit) (s t : Sheet) (steps : left ≡ d ∷ rest) where
  pub allowed_then : NoneRefused (map owned_edit_of left) s → t ≡ edited_sheet (owned_edit_of d) s → NoneRefused (map owned_edit_of rest) t
  allowed_then none made =
      subst (λ (u : Sheet). NoneRefused (map owned_edit_of rest) u) (sym made)
      (rest_allowed (owned_edit_of d) (map owned_edit_of rest) s (subst (λ l. NoneRefused (map owned_edit_of l) s) steps none))

  pub leads_then : (all : Sheet) → edited_all (map owned_edit_of left) s ≡ all → t ≡ edited_sheet (owned_edit_of d) s → edited_all (map owned_edit_of rest) t ≡ all
  leads_then all leads made =
      ap (edited_all (map owned_edit_of rest)) made ∙ ap (λ l. edited_all (map owned_edit_of l) s) (sym steps) ∙ leads

-- another rule, and the inputs that stand
pub rule_after : (cells : List model.Cell) (g : Setting) (w : World) (inputs : List (List ℕ × Source)) → setting_of w ≡ g → (rule : Rule) → inputs ≡ given_of w.inputs.entries
    → sheet cells (record { inputs = inputs; rule = rule }) ≡ edited_sheet (model.SetRule rule) (sheet cells g)
rule_after cells g w inputs same rule is =
    ap (λ i. sheet cells (record { inputs = i; rule = rule })) is ∙ ap (λ (h : Setting). edited_sheet (model.SetRule rule) (sheet cells h)) same
