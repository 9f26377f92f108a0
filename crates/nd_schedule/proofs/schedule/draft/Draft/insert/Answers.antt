use Rattle.std.proofs.lemmas.Grind.{common_steps}
use Rattle.std.proofs.Common.{◌≡◌, ◌<◌, ◌||◌, ℕ, eqb, List, length, sym, ap, ap₂, subst, ◌∙◌, arith}
use Rattle.std.specs.Prelude.{IsTrue, insert}
use Rattle.nd_model.specs.Book.Book.{Cell, Insert, edited_cells, fresh_label, is_label}
use Rattle.nd_schedule.specs.Cells.Source.{cell_of, cells_of}
use Rattle.nd_schedule.specs.declared.schedule.draft.Hint.TheVariants.{New}
use Rattle.nd_schedule.proofs.schedule.Editing.{cell_now}
use Rattle.nd_schedule.proofs.schedule.Drafting.{IsDraft, cells_inserted, inserted, long}
use Rattle.nd_schedule.proofs.schedule.draft.Draft.insert.Goals as goal

pub put_new-requires-clause-cells : goal.put_new-requires-clause-cells
put_new-requires-clause-cells c = omega (arith, c.requires, long c.self.inside.cells.items, ap length c.self.view_is)

pub put_new-requires-clause-hints : goal.put_new-requires-clause-hints
put_new-requires-clause-hints c = omega (arith, c.requires, long c.self.inside.cells.items, ap length c.self.view_is, c.self.invariant.1)

pub invariant_of-self-2 : goal.invariant_of-self-2
invariant_of-self-2 c =
    let cells : List Cell = cells_of c.self.inside.cells.items in
    let label : c.in_ok-label.field-0.label ≡ fresh_label cells = c.in_ok-label.ensures.label ∙ ap fresh_label (ap cells_of c.deref.ensures.value) in
    let is : ◌≡◌ {A = Cell} (cell_of c.in_ok-cell.cell.value) (record { label = fresh_label cells; source = c.args.text.now }) =
    cell_now c.in_ok-cell.cell _ _ c.args.text.now c.in_ok-cell.ensures.ok label c.in_ok-text.ensures.ok in
    let next : (n : ℕ) → n < c.in_ok-label.field-0.next → IsTrue (is_label n cells || eqb n (fresh_label cells)) =
    λ n lt. sym (ap₂ (λ (cs : List Cell) (l : ℕ). is_label n cs || eqb n l) (ap cells_of c.deref.ensures.value) label) ∙ c.in_ok-label.ensures.next n lt in
    subst (λ xs. IsDraft xs c.put_new.new.hints.items c.in_ok-label.field-0.next) (sym c.in_ok-put_new.ensures.cells)
    (subst (λ hs. IsDraft (insert c.self.inside.cells.items c.args.at c.in_ok-cell.cell) hs c.in_ok-label.field-0.next) (sym c.in_ok-put_new.ensures.hints)
    (inserted c.self.inside.cells.items c.self.inside.hints.items c.self.inside.least c.self.invariant c.args.at c.in_ok-cell.cell New c.args.text.now c.in_ok-label.field-0.next
    (omega (arith, c.requires, long c.self.inside.cells.items, ap length c.self.view_is)) is next))

pub returns-clause-ok : goal.returns-clause-ok
returns-clause-ok c =
    let label : c.in_ok-label.field-0.label ≡ fresh_label (cells_of c.self.inside.cells.items) = c.in_ok-label.ensures.label ∙ ap fresh_label (ap cells_of c.deref.ensures.value) in
    let is : ◌≡◌ {A = Cell} (cell_of c.in_ok-cell.cell.value) (record { label = fresh_label (cells_of c.self.inside.cells.items); source = c.args.text.now }) =
    cell_now c.in_ok-cell.cell _ _ c.args.text.now c.in_ok-cell.ensures.ok label c.in_ok-text.ensures.ok in
    ap cells_of c.in_ok-put_new.ensures.cells ∙ cells_inserted c.self.inside.cells.items c.args.at c.in_ok-cell.cell c.args.text.now is ∙ ap (edited_cells (Insert c.args.at c.args.text.now)) c.self.view_is

pub returns-in_err-label-clause-err : goal.returns-in_err-label-clause-err
returns-in_err-label-clause-err c = grind (arith, common_steps)

pub returns-in_err-text-clause-err : goal.returns-in_err-text-clause-err
returns-in_err-text-clause-err c = grind (arith, common_steps)

pub returns-in_err-cell-clause-err : goal.returns-in_err-cell-clause-err
returns-in_err-cell-clause-err c = grind (arith, common_steps)

pub returns-in_err-put_new-clause-err : goal.returns-in_err-put_new-clause-err
returns-in_err-put_new-clause-err c = grind (arith, common_steps)
