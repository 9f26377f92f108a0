-- What a cell gives that is tried, by the record of its run.
use Rattle.std.proofs.Common.{◌≡◌, ℕ, ◌+◌, ◌<◌, ◌≤◌, List, length, Option, Result, Ok, Err, is_ok, IsErrAnd, refl, sym, ap, subst, ◌∙◌, arith}
use Rattle.std.specs.Prelude.{insert}
use Rattle.std.proofs.lemmas.Bool.{le-leb, le-ltb}
use Rattle.std.proofs.lemmas.List.Edits.{length-insert}
use Rattle.nd_model.specs.Book.Book.{Book, Cell, CellResult, Insert, ask_cell, count_of, fresh_label, most_source, result_at}
use Rattle.nd_model.specs.Book.Entries.{entry_at, record_at}
use Rattle.nd_model.specs.Book.Notebook.{Sheet, book_of, edited_sheet}
use Rattle.nd_model.specs.Book.Records.{Record}
use Rattle.nd_model.specs.Book.Renaming.{Told}
use Rattle.nd_model.proofs.Entries.{told_by_records}
use Rattle.nd_memory.specs.Want.{out_of_memory}
use Rattle.nd_cell.specs.Records.{recorded}
use Rattle.nd_notebook.specs.declared.edit.EditFault as declared
use Rattle.nd_notebook.specs.declared.edit.EditFault.TheVariants as edits
use Rattle.nd_notebook.specs.declared.trying.TriedCell.{TriedCell}
use Rattle.nd_notebook.specs.Tried.{TellsTried, told_there, tried, tried_of}

-- what a record gives
abbrev pub gives : Record → CellResult
gives r = record { text = r.effects.text; refusal = r.effects.refusal; saves = r.effects.saves }

-- a cell that stands there is told of by its record
pub result_by_record : (b : Book) (at : ℕ) → at < length b.cells → result_at b at ≡ Ok (gives (record_at b.world (entry_at b at)))
result_by_record b at lt = ap (λ (o : Option Told). ask_cell at (count_of b) o (λ (t : Told). Ok (record { text = t.text; refusal = t.refusal; saves = t.saves }))) (told_by_records b at lt)

module _ (s : Sheet) (at : ℕ) (source : List ℕ) (le : at ≤ length s.cells) (short : length source ≤ most_source) where
  abbrev pub new : Book
  new = book_of (edited_sheet (Insert at source) s)

  abbrev pub made : Record
  made = record_at (book_of s).world (entry_at new at)

  there : at < length new.cells
  there = let c : Cell = record { label = fresh_label s.cells; source = source } in
      let many : length (insert s.cells at c) ≡ length s.cells + 1 = length-insert s.cells at c le in omega (arith, many)

  -- THE ERROR DOES NOT COME: a try that is not refused gives the result of the cell in the notebook with it.
  pub is_tried : tried at source (book_of s) ≡ Ok (gives made)
  is_tried = rw (le-ltb (length s.cells) at le, le-leb (length source) most_source short) (ap (told_there at (length s.cells)) (result_by_record new at there))

  pub told_by : (t : TriedCell) → recorded t.made ≡ made → TellsTried (tried_of (Ok t)) (tried at source (book_of s))
  told_by t is = is_tried ∙ ap (λ (r : Record). Ok (gives r)) (sym is)

  pub memory_told : (r : Result TriedCell declared.EditFault) → IsErrAnd r (λ e. e ≡ edits.Memory out_of_memory) → TellsTried (tried_of r) (tried at source (book_of s))
  memory_told (Ok t) h = elim h [ ]
  memory_told (Err f) h = subst (λ (f : declared.EditFault). TellsTried (tried_of (Err f)) (tried at source (book_of s))) (sym h) (ap is_ok is_tried)
