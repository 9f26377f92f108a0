-- A cell that is tried at a place: it runs as the one that would be inserted there.
use Rattle.std.proofs.Common.{◌≡◌, ℕ, ◌+◌, ◌-◌, ◌^◌, ◌≤◌, min, List, length, Result, Ok, Err, refl, sym, ap, subst, ◌∙◌, arith}
use Rattle.std.specs.Prelude.{OnErr}
use Rattle.nd_model.specs.Cells.Session.{Session}
use Rattle.nd_model.specs.Cells.Running.{World}
use Rattle.nd_model.specs.Grammar.Reading.{reading}
use Rattle.nd_model.specs.Cells.Footprint.{HasNone}
use Rattle.nd_model.specs.Book.Records.{Record, record_of}
use Rattle.nd_model.specs.Book.Renaming.{AreDistinct}
use Rattle.nd_model.specs.Book.Book.{Cell, Insert, labels_of, fresh_label}
use Rattle.nd_model.specs.Book.Entries.{entry_at, record_at}
use Rattle.nd_model.specs.Book.Notebook.{Sheet, book_of, edited_sheet, world_in}
use Rattle.nd_model.specs.Book.Stale.{counted}
use Rattle.nd_schedule.specs.Schedule.Snapshot.{StandsBefore}
use Rattle.nd_schedule.proofs.schedule.Inserting.{none_here, run_record}

module _ (s : Sheet) (at : ℕ) (source : List ℕ) (le : at ≤ length s.cells) (d : AreDistinct (labels_of s.cells)) (h : Session) (here : StandsBefore (book_of s) at h) (label : ℕ) (fresh : label ≡ fresh_label s.cells) where
  abbrev tried : Cell
  tried = record { label = fresh_label s.cells; source = source }

  pub none_tried : HasNone label h
  none_tried = subst (λ l. HasNone l h) (sym fresh) (none_here s at tried le d refl h here)

  pub tried_record : (r : Record) (given : World) → given ≡ world_in s.given → r ≡ record_of label (reading source) given h
      → r ≡ record_at (book_of s).world (entry_at (book_of (edited_sheet (Insert at source) s)) at)
  tried_record r given same made = made ∙ ap (λ l. record_of l (reading source) given h) fresh ∙ run_record s at tried le d refl h here given same

-- where a run wants memory, it counts as one
pub one_at_most : {X E : Type 0} (r : Result X E) (before after : ℕ) → after ≡ min (before + 1) (2 ^ 64 - 1) → OnErr r ((runs : ℕ) × (runs ≤ 1) × (after ≡ counted runs before))
one_at_most (Ok x) before after more = tt
one_at_most (Err e) before after more = (1, omega arith, more)
