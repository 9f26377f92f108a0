use Rattle.std.proofs.lemmas.Grind.{common_steps}
use Rattle.std.proofs.Common.{◌≡◌, length, refl, sym, ap, subst, ◌∙◌, arith}
use Rattle.std.specs.Prelude.{remove, slice_index_or}
use Rattle.nd_model.specs.Book.Book.{Cell, Remove, edited_cells, no_cell}
use Rattle.nd_schedule.specs.Cells.Source.{cell_of, cells_of}
use Rattle.nd_schedule.proofs.schedule.Editing.{label_at}
use Rattle.nd_schedule.proofs.schedule.Drafting.{IsDraft, cells_without, long, without}
use Rattle.nd_schedule.proofs.schedule.draft.Draft.remove.Goals as goal

pub invariant_of-self : goal.invariant_of-self
invariant_of-self c =
    let inside : length c.self.inside.cells.items ≡ length c.args.self.now = sym (long c.self.inside.cells.items) ∙ ap length c.self.view_is in
    let label : c.deref.result.now.label ≡ (slice_index_or (cells_of c.self.inside.cells.items) c.args.at no_cell).label =
    ap (λ (x : Cell). x.label) (ap cell_of c.deref.ensures ∙ label_at (cells_of c.self.inside.cells.items) c.self.inside.cells.items c.index.result.now c.args.at refl (omega (arith, c.requires, ap length c.self.view_is)) c.index.ensures) in
    subst (λ xs. IsDraft xs c.remove-hint.new.self.items c.min-self-inside.result) (sym c.remove-cell.ensures.items)
    (subst (λ hs. IsDraft (remove c.self.inside.cells.items c.args.at) hs c.min-self-inside.result) (sym c.remove-hint.ensures.items)
    (without c.self.inside.cells.items c.self.inside.hints.items c.self.inside.least c.self.invariant c.args.at c.min-self-inside.result (omega (arith, c.requires, inside))
    (omega (arith, c.min-self-inside.ensures)) (omega (arith, c.min-self-inside.ensures, label))))

pub returns : goal.returns
returns c = ap cells_of c.remove-cell.ensures.items ∙ cells_without c.self.inside.cells.items c.args.at ∙ ap (edited_cells (Remove c.args.at)) c.self.view_is

pub index-requires : goal.index-requires
index-requires c = grind (arith, common_steps)

pub remove-cell-requires : goal.remove-cell-requires
remove-cell-requires c = grind (arith, common_steps)

pub remove-hint-requires : goal.remove-hint-requires
remove-hint-requires c = grind (arith, common_steps)
