use Rattle.std.proofs.lemmas.Grind.{common_steps}
use Rattle.std.proofs.Common.{◌≡◌, length, refl, ap, ◌∙◌, arith}
use Rattle.std.specs.Prelude.{slice_index_or}
use Rattle.nd_model.specs.Book.Book.{Cell, Change, edited_cells, no_cell}
use Rattle.nd_schedule.specs.Cells.Source.{cell_of, cells_of}
use Rattle.nd_schedule.proofs.schedule.Editing.{cell_now, label_at}
use Rattle.nd_schedule.proofs.schedule.Drafting.{cells_changed, changed}
use Rattle.nd_schedule.proofs.schedule.draft.Draft.edit.Goals as goal

pub invariant_of-self : goal.invariant_of-self
invariant_of-self c =
    let label : c.deref.result.now.label ≡ (slice_index_or (cells_of c.self.inside.cells.items) c.args.at no_cell).label =
    ap (λ (x : Cell). x.label) (ap cell_of c.deref.ensures ∙ label_at (cells_of c.self.inside.cells.items) c.self.inside.cells.items c.index.result.now c.args.at refl (omega (arith, c.requires, ap length c.self.view_is)) c.index.ensures) in
    changed c.self.inside.cells.items c.self.inside.hints.items c.self.inside.least c.self.invariant c.args.at c.in_ok-self-inside.field-0 c.args.text.now
    (cell_now c.in_ok-self-inside.field-0 _ _ c.args.text.now c.in_ok-self-inside.ensures.ok label c.in_ok-text.ensures.ok)

pub returns-clause-ok : goal.returns-clause-ok
returns-clause-ok c =
    let label : c.deref.result.now.label ≡ (slice_index_or (cells_of c.self.inside.cells.items) c.args.at no_cell).label =
    ap (λ (x : Cell). x.label) (ap cell_of c.deref.ensures ∙ label_at (cells_of c.self.inside.cells.items) c.self.inside.cells.items c.index.result.now c.args.at refl (omega (arith, c.requires, ap length c.self.view_is)) c.index.ensures) in
    cells_changed c.self.inside.cells.items c.args.at c.in_ok-self-inside.field-0 c.args.text.now
    (cell_now c.in_ok-self-inside.field-0 _ _ c.args.text.now c.in_ok-self-inside.ensures.ok label c.in_ok-text.ensures.ok) ∙ ap (edited_cells (Change c.args.at c.args.text.now)) c.self.view_is

pub index-requires : goal.index-requires
index-requires c = grind (arith, common_steps)

pub index_mut-requires : goal.index_mut-requires
index_mut-requires c = grind (arith, common_steps)

pub returns-in_err-text-clause-err : goal.returns-in_err-text-clause-err
returns-in_err-text-clause-err c = grind (arith, common_steps)

pub returns-in_err-self-inside-clause-err : goal.returns-in_err-self-inside-clause-err
returns-in_err-self-inside-clause-err c = grind (arith, common_steps)
