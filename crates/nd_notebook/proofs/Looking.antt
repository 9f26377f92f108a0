-- Edits that are looked at one after another, before any is made.
use Rattle.std.proofs.Common.{◌≡◌, ℕ, suc, ◌+◌, ◌<◌, Bool, true, false, not, bytes_eq, List, [], ◌∷◌, ◌++◌, length, map, take, drop, get_or, Option, Some, None, is_none, Err, refl, sym, ap, ap₂, subst, ◌∙◌, inl, inr, arith, ◌-◌, add-one, drop-cons}
use Rattle.std.specs.Bool.{then_some}
use Rattle.std.proofs.lemmas.Bool.{cases_Bool, cond-false, cond-true}
use Rattle.std.proofs.lemmas.List.{map_more, take_all}
use Rattle.std.proofs.lemmas.Option.{slice_get_read}
use Rattle.nd_model.specs.Cells.Running.{Source}
use Rattle.nd_model.specs.Cells.Session.{lookup}
use Rattle.nd_model.specs.Book.Book as model
use Rattle.nd_model.specs.Book.Notebook.{Sheet, book_of, edited_sheet}
use Rattle.nd_model.proofs.EditBooks.{edits_book}
use Rattle.nd_model.proofs.Lists.{lookup-bind, lookup-unbind}
use Rattle.nd_notebook.specs.Edits.{edit_fault_of}
use Rattle.nd_notebook.specs.SoFar.{IsChecked, LeavesInput}
use Rattle.nd_notebook.specs.Together.{edited_all, first_refused, name_in_owned, owned_edit_of, refused_of, refused_or}
use Rattle.nd_notebook.specs.declared.edit.EditFault.{EditFault}
use Rattle.nd_notebook.specs.declared.together.OwnedEdit.{OwnedEdit}

-- ---- one edit

-- an edit that is not refused: what follows decides
passed : (n : ℕ) (e : model.Edit) (es : List model.Edit) (s : Sheet) → model.refusal e (book_of s) ≡ None
    → first_refused n (e ∷ es) (book_of s) ≡ first_refused (suc n) es (book_of (edited_sheet e s))
passed n e es s fine =
    ap (λ (o : Option model.EditFault). refused_or o n (first_refused (suc n) es (model.edited e (book_of s)))) fine
    ∙ ap (first_refused (suc n) es) (sym (edits_book e s))

-- one that is refused decides
stopped : (n : ℕ) (e : model.Edit) (es : List model.Edit) (s : Sheet) (f : model.EditFault) → model.refusal e (book_of s) ≡ Some f
    → first_refused n (e ∷ es) (book_of s) ≡ Some (record { number = n; fault = f })
stopped n e es s f is = ap (λ (o : Option model.EditFault). refused_or o n (first_refused (suc n) es (model.edited e (book_of s)))) is

edited_all-more : (es : List model.Edit) (e : model.Edit) (s : Sheet) → edited_all (es ++ e ∷ []) s ≡ edited_sheet e (edited_all es s)
edited_all-more [] e s = refl
edited_all-more (d ∷ es) e s = edited_all-more es e (edited_sheet d s)

-- ---- the edit at a place of some

module _ (es : List OwnedEdit) (k : ℕ) (d : OwnedEdit) (s : Sheet) (lt : k < length es) (is : d ≡ get_or es k d) where
  -- the notebook that the edits in front leave
  abbrev front : Sheet
  front = edited_all (map owned_edit_of (take k es)) s

  pub front-more : edited_all (map owned_edit_of (take (k + 1) es)) s ≡ edited_sheet (owned_edit_of d) front
  front-more =
      ap (λ l. edited_all l s) (map_more owned_edit_of es k d lt)
      ∙ edited_all-more (map owned_edit_of (take k es)) (owned_edit_of (get_or es k d)) s
      ∙ ap (λ (e : OwnedEdit). edited_sheet (owned_edit_of e) front) (sym is)

  here : map owned_edit_of (drop k es) ≡ owned_edit_of d ∷ map owned_edit_of (drop (k + 1) es)
  here = ap (map owned_edit_of) (drop-cons es k d lt ∙ ap₂ (λ (e : OwnedEdit) n. e ∷ drop n es) (sym is) (sym (add-one k)))

  pub passed_here : model.refusal (owned_edit_of d) (book_of front) ≡ None
      → first_refused k (map owned_edit_of (drop k es)) (book_of front)
      ≡ first_refused (k + 1) (map owned_edit_of (drop (k + 1) es)) (book_of (edited_all (map owned_edit_of (take (k + 1) es)) s))
  passed_here fine =
      ap (λ l. first_refused k l (book_of front)) here
      ∙ passed k (owned_edit_of d) (map owned_edit_of (drop (k + 1) es)) front fine
      ∙ ap₂ (λ n (t : Sheet). first_refused n (map owned_edit_of (drop (k + 1) es)) (book_of t)) (sym (add-one k)) (sym front-more)

  pub stopped_here : (f : EditFault) → IsChecked (owned_edit_of d) front (Err f)
      → Some (refused_of es (record { number = k; fault = f })) ≡ first_refused k (map owned_edit_of (drop k es)) (book_of front)
  stopped_here f refused =
      ap (λ (o : Option OwnedEdit). Some (record { number = k; fault = edit_fault_of (name_in_owned o) f })) (slice_get_read es (length es) k d refl lt is)
      ∙ sym (stopped k (owned_edit_of d) (map owned_edit_of (drop (k + 1) es)) front _ refused)
      ∙ ap (λ l. first_refused k l (book_of front)) (sym here)

-- ---- an input after an edit

pub set_leaves : (name set : List ℕ) (v : Source) (o : Option Bool) → o ≡ then_some (bytes_eq name set) true → LeavesInput name (model.SetInput set v) o
set_leaves name set v o is = elim (cases_Bool (bytes_eq name set)) [
  | inl same ↦
      let some : o ≡ Some true = is ∙ ap (λ b. then_some b true) same in
      subst (LeavesInput name (model.SetInput set v)) (sym some) (λ given. ap is_none (lookup-bind name set v given.inputs ∙ cond-true (bytes_eq name set) (Some v) (lookup name given.inputs) same))
  | inr other ↦
      let none : o ≡ None = is ∙ ap (λ b. then_some b true) other in
      subst (LeavesInput name (model.SetInput set v)) (sym none) (λ given. lookup-bind name set v given.inputs ∙ cond-false (bytes_eq name set) (Some v) (lookup name given.inputs) other)
]

pub drop_leaves : (name dropped : List ℕ) (o : Option Bool) → o ≡ then_some (bytes_eq name dropped) false → LeavesInput name (model.DropInput dropped) o
drop_leaves name dropped o is = elim (cases_Bool (bytes_eq name dropped)) [
  | inl same ↦
      let some : o ≡ Some false = is ∙ ap (λ b. then_some b false) same in
      subst (LeavesInput name (model.DropInput dropped)) (sym some) (λ given. ap is_none (lookup-unbind name dropped given.inputs ∙ cond-true (bytes_eq name dropped) None (lookup name given.inputs) same))
  | inr other ↦
      let none : o ≡ None = is ∙ ap (λ b. then_some b false) other in
      subst (LeavesInput name (model.DropInput dropped)) (sym none) (λ given. lookup-unbind name dropped given.inputs ∙ cond-false (bytes_eq name dropped) None (lookup name given.inputs) other)
]

-- ---- an input after the first of some edits

module _ (name : List ℕ) (es : List OwnedEdit) (s : Sheet) where
  abbrev pub lacks_after : (many : ℕ) → Bool
  lacks_after many = is_none (lookup name (edited_all (map owned_edit_of (take many es)) s).given.inputs)

  pub lacks_after_all : is_none (lookup name (edited_all (map owned_edit_of es) s).given.inputs) ≡ lacks_after (length es)
  lacks_after_all = ap (λ l. is_none (lookup name (edited_all (map owned_edit_of l) s).given.inputs)) (sym (take_all (length es) es (omega arith)))

  -- the edit in front of a place is not of the name
  pub lacks_before : (i : ℕ) (d : OwnedEdit) → 0 < i → i - 1 < length es → d ≡ get_or es (i - 1) d → LeavesInput name (owned_edit_of d) None → lacks_after i ≡ lacks_after (i - 1)
  lacks_before i d gt lt is leaves =
      let one : i ≡ (i - 1) + 1 = omega arith in
      ap lacks_after one ∙ ap (λ (t : Sheet). is_none (lookup name t.given.inputs)) (front-more es (i - 1) d s lt is)
      ∙ ap is_none (leaves (edited_all (map owned_edit_of (take (i - 1) es)) s).given)

  -- the edit in front of a place is of the name, and so decides
  pub lacks_here : (i : ℕ) (d : OwnedEdit) (has : Bool) → 0 < i → i - 1 < length es → d ≡ get_or es (i - 1) d → LeavesInput name (owned_edit_of d) (Some has) → lacks_after i ≡ not has
  lacks_here i d has gt lt is leaves =
      let one : i ≡ (i - 1) + 1 = omega arith in
      ap lacks_after one ∙ ap (λ (t : Sheet). is_none (lookup name t.given.inputs)) (front-more es (i - 1) d s lt is)
      ∙ leaves (edited_all (map owned_edit_of (take (i - 1) es)) s).given
