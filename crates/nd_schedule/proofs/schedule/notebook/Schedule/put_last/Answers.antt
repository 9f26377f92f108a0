use Rattle.std.proofs.Common.{◌≡◌, ℕ, List, length, map, sym, ap, ap₂, subst, ◌∙◌, arith}
use Rattle.std.specs.Prelude.{insert}
use Rattle.std.specs.List.{All}
use Rattle.std.proofs.lemmas.List.{length-map}
use Rattle.nd_model.specs.Book.Book.{Cell}
use Rattle.nd_model.specs.Book.Notebook.{Sheet, book_of}
use Rattle.nd_model.proofs.EditKept.{map-insert}
use Rattle.nd_schedule.specs.Cells.Labels.{AreUsed}
use Rattle.nd_schedule.specs.Cells.Source.{sheet, cell_of, cells_of}
use Rattle.nd_schedule.specs.Cells.Shared.{each_of}
use Rattle.nd_schedule.specs.Schedule.Snapshot.{IsSnapshot}
use Rattle.nd_schedule.specs.Schedule.Sweep.{IsKept}
use Rattle.nd_schedule.proofs.schedule.Kept.{as_many}
use Rattle.nd_schedule.proofs.schedule.Inserting.{kept_last, snapshots_last}
use Rattle.nd_schedule.proofs.cells.Used.{used_insert}
use Rattle.nd_schedule.proofs.schedule.notebook.Schedule.put_last.Goals as goal

pub put_new-requires-clause-records : goal.put_new-requires-clause-records
put_new-requires-clause-records g c =
    let many : length c.self.inside.records.items ≡ length (cells_of c.self.inside.cells.items) = as_many (λ r. g.C.CellRunner.recorded r.value) (book_of (sheet (cells_of c.self.inside.cells.items) (g.C.CellRunner.given c.self.inside.world))) c.self.inside.records.items ((c.self.invariant).0).run.records in
    omega (arith, many, length-map c.self.inside.cells.items (λ x. cell_of x.value), c.len-at.ensures)

pub put_new-requires-clause-words : goal.put_new-requires-clause-words
put_new-requires-clause-words g c =
    let many : length c.self.inside.records.items ≡ length (cells_of c.self.inside.cells.items) = as_many (λ r. g.C.CellRunner.recorded r.value) (book_of (sheet (cells_of c.self.inside.cells.items) (g.C.CellRunner.given c.self.inside.world))) c.self.inside.records.items ((c.self.invariant).0).run.records in
    omega (arith, many, length-map c.self.inside.cells.items (λ x. cell_of x.value), length-map c.self.inside.records.items (λ r. g.C.CellRunner.recorded r.value), ((c.self.invariant).0).many, c.len-at.ensures)

pub invariant_of-self : goal.invariant_of-self
invariant_of-self g c =
    subst (λ ws. IsKept g.C.CellRunner.covers (book_of (sheet (cells_of c.put_new.new.cells.items) (g.C.CellRunner.given c.self.inside.world))) (each_of g.C.CellRunner.recorded c.put_new.new.records.items) ws × All (λ x. IsSnapshot (book_of (sheet (cells_of c.put_new.new.cells.items) (g.C.CellRunner.given c.self.inside.world))) x.place (g.C.CellRunner.kept_session x.version) (map g.C.CellRunner.change_of x.pending.items)) c.self.inside.snapshots.items × AreUsed c.self.inside.least (cells_of c.put_new.new.cells.items)) (sym c.in_err-put_new.ensures.same_words)
    (subst (λ rs. IsKept g.C.CellRunner.covers (book_of (sheet (cells_of c.put_new.new.cells.items) (g.C.CellRunner.given c.self.inside.world))) (each_of g.C.CellRunner.recorded rs) c.self.inside.words.items × All (λ x. IsSnapshot (book_of (sheet (cells_of c.put_new.new.cells.items) (g.C.CellRunner.given c.self.inside.world))) x.place (g.C.CellRunner.kept_session x.version) (map g.C.CellRunner.change_of x.pending.items)) c.self.inside.snapshots.items × AreUsed c.self.inside.least (cells_of c.put_new.new.cells.items)) (sym c.in_err-put_new.ensures.same_records)
    (subst (λ xs. IsKept g.C.CellRunner.covers (book_of (sheet (cells_of xs) (g.C.CellRunner.given c.self.inside.world))) (each_of g.C.CellRunner.recorded c.self.inside.records.items) c.self.inside.words.items × All (λ x. IsSnapshot (book_of (sheet (cells_of xs) (g.C.CellRunner.given c.self.inside.world))) x.place (g.C.CellRunner.kept_session x.version) (map g.C.CellRunner.change_of x.pending.items)) c.self.inside.snapshots.items × AreUsed c.self.inside.least (cells_of xs)) (sym c.in_err-put_new.ensures.same_cells) c.self.invariant))

pub invariant_of-self-2 : goal.invariant_of-self-2
invariant_of-self-2 g c =
    let s : Sheet = c.args.self.now in
    let cell : Cell = cell_of c.args.cell.value in
    let inside : length c.self.inside.cells.items ≡ length s.cells = sym (length-map c.self.inside.cells.items (λ x. cell_of x.value)) ∙ ap (λ (s : Sheet). length s.cells) c.self.view_is in
    let at_is : c.len-at.result ≡ length s.cells = omega (arith, inside, c.len-at.ensures) in
    let cells : cells_of c.put_new.new.cells.items ≡ insert s.cells (length s.cells) cell =
    ap cells_of c.in_ok-put_new.ensures.cells ∙ map-insert (λ x. cell_of x.value) c.self.inside.cells.items c.len-at.result c.args.cell
    ∙ ap₂ (λ (cs : List Cell) (n : ℕ). insert cs n cell) (ap (λ (s : Sheet). s.cells) c.self.view_is) at_is in
    let now : sheet (cells_of c.put_new.new.cells.items) (g.C.CellRunner.given c.self.inside.world) ≡ sheet (insert s.cells (length s.cells) cell) s.given = ap₂ sheet cells (ap (λ (s : Sheet). s.given) c.self.view_is) in (
      kept_last g.C.CellRunner.covers _ s _ c.len-at.result cell _ _ c.self.inside.words.items _ (g.C.CellRunner.recorded c.args.new.record.value) c.args.new.word c.self.view_is at_is now (c.self.invariant).0 c.requires.label
          (ap (each_of g.C.CellRunner.recorded) c.in_ok-put_new.ensures.records ∙ map-insert (λ r. g.C.CellRunner.recorded r.value) c.self.inside.records.items c.len-at.result c.args.new.record) c.in_ok-put_new.ensures.words c.requires.made c.requires.worded,
      snapshots_last (λ x. x.place) (λ x. g.C.CellRunner.kept_session x.version) (λ x. map g.C.CellRunner.change_of x.pending.items) _ s _ cell c.self.view_is now ((c.self.invariant).0).run.distinct c.requires.label c.self.inside.snapshots.items (c.self.invariant).1,
      subst (AreUsed c.args.next) (sym cells) (used_insert c.args.next s.cells (length s.cells) cell c.requires.next),
    )

pub returns-clause-ok : goal.returns-clause-ok
returns-clause-ok g c =
    let s : Sheet = c.args.self.now in
    let inside : length c.self.inside.cells.items ≡ length s.cells = sym (length-map c.self.inside.cells.items (λ x. cell_of x.value)) ∙ ap (λ (s : Sheet). length s.cells) c.self.view_is in
    let at_is : c.len-at.result ≡ length s.cells = omega (arith, inside, c.len-at.ensures) in
    ap₂ sheet (ap cells_of c.in_ok-put_new.ensures.cells ∙ map-insert (λ x. cell_of x.value) c.self.inside.cells.items c.len-at.result c.args.cell
    ∙ ap₂ (λ (cs : List Cell) (n : ℕ). insert cs n (cell_of c.args.cell.value)) (ap (λ (s : Sheet). s.cells) c.self.view_is) at_is) (ap (λ (s : Sheet). s.given) c.self.view_is)
