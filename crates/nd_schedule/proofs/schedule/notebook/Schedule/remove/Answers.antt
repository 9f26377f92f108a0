use Rattle.nd_schedule.proofs.schedule.Turning.{at_err}
use Rattle.std.proofs.lemmas.Grind.{common_steps}
use Rattle.std.proofs.Common.{◌≡◌, refl, length, map, sym, ap, ap₂, subst, ◌∙◌, arith}
use Rattle.std.specs.Prelude.{remove, slice_index_or}
use Rattle.std.proofs.lemmas.List.{length-map}
use Rattle.nd_model.specs.Book.Book.{Cell, no_cell}
use Rattle.nd_model.specs.Book.Notebook.{Sheet, book_of}
use Rattle.nd_model.proofs.EditKept.{map-remove}
use Rattle.nd_schedule.specs.Cells.Labels.{AreUsed}
use Rattle.nd_schedule.specs.declared.cells.source.KeptCell.{KeptCell}
use Rattle.nd_schedule.specs.Cells.Source.{sheet, cell_of, cells_of}
use Rattle.nd_schedule.specs.Cells.Shared.{each_of}
use Rattle.nd_schedule.specs.Schedule.Ran.{AreStale, shifted}
use Rattle.nd_schedule.specs.declared.schedule.ran.Shift.TheVariants as shifts
use Rattle.nd_schedule.specs.Schedule.Sweep.{AreFit, IsKept, change_at, fit_at}
use Rattle.nd_schedule.proofs.schedule.Runs.{ran_removed}
use Rattle.std.specs.List.{All}
use Rattle.nd_schedule.specs.Schedule.Snapshot.{IsSnapshot}
use Rattle.nd_schedule.proofs.schedule.Kept.{as_many}
use Rattle.nd_schedule.proofs.schedule.Editing.{label_at}
use Rattle.nd_schedule.proofs.schedule.Removing
use Rattle.nd_schedule.proofs.cells.Used.{used_remove}
use Rattle.nd_schedule.proofs.schedule.Standing.{along}
use Rattle.nd_schedule.proofs.schedule.notebook.Schedule.remove.Goals as goal

pub take_over-ran-requires-clause-fit : goal.take_over-ran-requires-clause-fit
take_over-ran-requires-clause-fit g c =
    let run : IsKept g.C.CellRunner.covers (book_of c.args.self.now) (each_of g.C.CellRunner.recorded c.self.inside.records.items) c.self.inside.words.items =
    subst (λ (s : Sheet). IsKept g.C.CellRunner.covers (book_of s) (each_of g.C.CellRunner.recorded c.self.inside.records.items) c.self.inside.words.items) c.self.view_is (c.self.invariant).0 in
    let many : length c.self.inside.records.items ≡ length c.args.self.now.cells = as_many (λ r. g.C.CellRunner.recorded r.value) (book_of c.args.self.now) c.self.inside.records.items run.run.records in
    subst (λ n. AreFit g.C.CellRunner.covers n (map (λ c'. fit_at c'.place (g.C.CellRunner.recorded c'.record.value) c'.word) c.in_ok-edited.edited.swept.changed.items)) (sym many)
    c.in_ok-edited.ensures.fit

pub remove-record-requires : goal.remove-record-requires
remove-record-requires g c =
    let run : IsKept g.C.CellRunner.covers (book_of c.args.self.now) (each_of g.C.CellRunner.recorded c.self.inside.records.items) c.self.inside.words.items =
    subst (λ (s : Sheet). IsKept g.C.CellRunner.covers (book_of s) (each_of g.C.CellRunner.recorded c.self.inside.records.items) c.self.inside.words.items) c.self.view_is (c.self.invariant).0 in
    let many : length c.self.inside.records.items ≡ length c.args.self.now.cells = as_many (λ r. g.C.CellRunner.recorded r.value) (book_of c.args.self.now) c.self.inside.records.items run.run.records in
    omega (arith, many, c.take_over-ran.ensures.count, c.requires)

pub invariant_of-self : goal.invariant_of-self
invariant_of-self g c =
    let run : IsKept g.C.CellRunner.covers (book_of c.args.self.now) (each_of g.C.CellRunner.recorded c.self.inside.records.items) c.self.inside.words.items =
    subst (λ (s : Sheet). IsKept g.C.CellRunner.covers (book_of s) (each_of g.C.CellRunner.recorded c.self.inside.records.items) c.self.inside.words.items) c.self.view_is (c.self.invariant).0 in
    let long : length (each_of g.C.CellRunner.recorded c.take_over-ran.new.records.items) ≡ length (each_of g.C.CellRunner.recorded c.self.inside.records.items) =
    length-map c.take_over-ran.new.records.items (λ r. g.C.CellRunner.recorded r.value) ∙ c.take_over-ran.ensures.count ∙ sym (length-map c.self.inside.records.items (λ r. g.C.CellRunner.recorded r.value)) in
    let cells : cells_of c.remove-cell.new.self.items ≡ remove c.args.self.now.cells c.args.at =
    ap cells_of c.remove-cell.ensures.items ∙ map-remove (λ s. cell_of s.value) c.self.inside.cells.items c.args.at ∙ ap (λ cs. remove cs c.args.at) (ap (λ (s : Sheet). s.cells) c.self.view_is) in
    let records : each_of g.C.CellRunner.recorded c.remove-record.new.self.items ≡ remove (each_of g.C.CellRunner.recorded c.take_over-ran.new.records.items) c.args.at =
    ap (each_of g.C.CellRunner.recorded) c.remove-record.ensures.items ∙ map-remove (λ r. g.C.CellRunner.recorded r.value) c.take_over-ran.new.records.items c.args.at in
    let label : c.deref.result.now.label ≡ (slice_index_or c.args.self.now.cells c.args.at no_cell).label =
    ap (λ (x : KeptCell). x.label) c.deref.ensures ∙ ap (λ (x : Cell). x.label) (label_at c.args.self.now.cells c.self.inside.cells.items c.index.result.now c.args.at (ap (λ (s : Sheet). s.cells) c.self.view_is) c.requires c.index.ensures) in
    let used : AreUsed c.self.inside.least c.args.self.now.cells = subst (λ (s : Sheet). AreUsed c.self.inside.least s.cells) c.self.view_is (c.self.invariant).2 in
    let kept : All (λ x. IsSnapshot (book_of c.args.self.now) x.place (g.C.CellRunner.kept_session x.version) (map g.C.CellRunner.change_of x.pending.items)) c.self.inside.snapshots.items =
    subst (λ (s : Sheet). All (λ x. IsSnapshot (book_of s) x.place (g.C.CellRunner.kept_session x.version) (map g.C.CellRunner.change_of x.pending.items)) c.self.inside.snapshots.items) c.self.view_is (c.self.invariant).1 in
    along (λ (s : Sheet). IsKept g.C.CellRunner.covers (book_of s) (each_of g.C.CellRunner.recorded c.remove-record.new.self.items) c.remove-word.new.self.items)
    (λ (s : Sheet). All (λ x. IsSnapshot (book_of s) x.place (g.C.CellRunner.kept_session x.version) (map g.C.CellRunner.change_of x.pending.items)) c.take_over-ran.new.snapshots.items) (AreUsed c.min-self-inside.result) _ _ (ap₂ sheet cells (ap (λ (s : Sheet). s.given) c.self.view_is))
    (subst (λ rs. IsKept g.C.CellRunner.covers (book_of (sheet (remove c.args.self.now.cells c.args.at) c.args.self.now.given)) rs c.remove-word.new.self.items) (sym records)
    (subst (λ ws. IsKept g.C.CellRunner.covers (book_of (sheet (remove c.args.self.now.cells c.args.at) c.args.self.now.given)) (remove (each_of g.C.CellRunner.recorded c.take_over-ran.new.records.items) c.args.at) ws) (sym c.remove-word.ensures.items)
    (Removing.kept_without g.C.CellRunner.covers c.args.self.now c.args.at _ (each_of g.C.CellRunner.recorded c.self.inside.records.items) (each_of g.C.CellRunner.recorded c.take_over-ran.new.records.items) c.self.inside.words.items c.take_over-ran.new.words.items c.requires run
    c.in_ok-edited.ensures.changed long c.take_over-ran.ensures.many c.take_over-ran.ensures.records c.take_over-ran.ensures.words)))
    (c.take_over-ran.ensures.snapshots (book_of c.args.self.now) (book_of (sheet (remove c.args.self.now.cells c.args.at) c.args.self.now.given)) (Removing.behind c.args.self.now c.args.at c.requires run.run.distinct) c.in_ok-edited.ensures.noted c.in_ok-edited.ensures.fresh kept)
    (used_remove c.self.inside.least c.min-self-inside.result c.args.self.now.cells c.args.at (omega (arith, c.min-self-inside.ensures)) (omega (arith, c.min-self-inside.ensures, label)) used)

pub returns-clause-ok : goal.returns-clause-ok
returns-clause-ok g c =
    let cells : cells_of c.remove-cell.new.self.items ≡ remove c.args.self.now.cells c.args.at =
    ap cells_of c.remove-cell.ensures.items ∙ map-remove (λ s. cell_of s.value) c.self.inside.cells.items c.args.at ∙ ap (λ cs. remove cs c.args.at) (ap (λ (s : Sheet). s.cells) c.self.view_is) in
    ap₂ sheet cells (ap (λ (s : Sheet). s.given) c.self.view_is)

pub index-requires : goal.index-requires
index-requires g c = grind (arith, common_steps)

pub take_over-ran-requires-clause-many : goal.take_over-ran-requires-clause-many
take_over-ran-requires-clause-many g c = ((c.self.invariant).0).many ∙ length-map c.self.inside.records.items (λ r. g.C.CellRunner.recorded r.value)

pub remove-cell-requires : goal.remove-cell-requires
remove-cell-requires g c = grind (arith, common_steps)

pub remove-word-requires : goal.remove-word-requires
remove-word-requires g c = grind (arith, common_steps)

pub returns-clause-counts : goal.returns-clause-counts
returns-clause-counts g c = c.swept_away.ensures.counts

pub returns-clause-err : goal.returns-clause-err
returns-clause-err g c = tt

pub returns-clause-last : goal.returns-clause-last
returns-clause-last g c = grind (arith, common_steps)

pub returns-in_err-edited-clause-counts : goal.returns-in_err-edited-clause-counts
returns-in_err-edited-clause-counts g c = c.swept_away.ensures.counts

pub returns-in_err-edited-clause-err : goal.returns-in_err-edited-clause-err
returns-in_err-edited-clause-err g c = at_err (c.args.self.now ≡ c.args.self.now) c.from_residual.result refl

pub returns-in_err-edited-clause-last : goal.returns-in_err-edited-clause-last
returns-in_err-edited-clause-last g c = grind (arith, common_steps)

pub returns-clause-ran : goal.returns-clause-ran
returns-clause-ran g c =
    let run : IsKept g.C.CellRunner.covers (book_of c.args.self.now) (each_of g.C.CellRunner.recorded c.self.inside.records.items) c.self.inside.words.items =
    subst (λ (s : Sheet). IsKept g.C.CellRunner.covers (book_of s) (each_of g.C.CellRunner.recorded c.self.inside.records.items) c.self.inside.words.items) c.self.view_is (c.self.invariant).0 in
    let places : c.take_over-ran.result.items ≡ map (λ c'. shifted shifts.Earlier c'.place) c.in_ok-edited.edited.swept.changed.items = ap (λ v. v.items) c.take_over-ran.ensures.ran ∙ c.in_ok-edited.ensures.ran in
    subst (AreStale (book_of c.args.self.now) (book_of (sheet (remove c.args.self.now.cells c.args.at) c.args.self.now.given))) (sym places)
    (ran_removed (λ c'. change_at c'.place (g.C.CellRunner.recorded c'.record.value)) c.in_ok-edited.edited.swept.changed.items c.args.self.now c.args.at c.requires run.run.distinct c.in_ok-edited.ensures.changed)
