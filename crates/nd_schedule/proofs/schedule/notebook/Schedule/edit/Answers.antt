use Rattle.nd_schedule.proofs.schedule.Turning.{at_err}
use Rattle.std.proofs.Common.{◌≡◌, refl, length, map, sym, ap, ap₂, subst, ◌∙◌, arith, false, string_bytes}
use Rattle.std.proofs.lemmas.Grind.{common_steps}
use Rattle.std.specs.Prelude.{bytes_eq, slice_index_or, slice_set}
use Rattle.std.proofs.lemmas.List.{length-map}
use Rattle.nd_model.specs.Book.Book.{Book, Cell, Change, no_cell}
use Rattle.nd_model.specs.Book.Notebook.{Sheet, book_of, edited_sheet}
use Rattle.nd_model.specs.Book.Stale.{CountsStale}
use Rattle.nd_schedule.specs.declared.cells.source.KeptCell.{KeptCell}
use Rattle.nd_schedule.specs.Cells.Labels.{AreUsed}
use Rattle.nd_schedule.specs.Cells.Source.{sheet, cell_of}
use Rattle.nd_schedule.specs.Cells.Shared.{each_of}
use Rattle.nd_schedule.specs.Schedule.Ran.{AreStale, shifted}
use Rattle.nd_schedule.specs.declared.schedule.ran.Shift.TheVariants as shifts
use Rattle.nd_schedule.specs.Schedule.Sweep.{AreFit, IsKept, change_at, fit_at}
use Rattle.nd_schedule.proofs.schedule.Sweeping.{counts_stale, none_yet}
use Rattle.nd_schedule.proofs.schedule.Runs.{ran_edited, ran_nothing}
use Rattle.std.specs.List.{All}
use Rattle.nd_schedule.specs.Schedule.Snapshot.{IsSnapshot}
use Rattle.nd_schedule.proofs.schedule.Kept.{as_many}
use Rattle.nd_schedule.proofs.schedule.Editing.{behind_set, unchanged, cells_now, kept_now}
use Rattle.nd_schedule.proofs.cells.Used.{used_set}
use Rattle.nd_schedule.proofs.schedule.Standing.{along}
use Rattle.nd_schedule.proofs.schedule.notebook.Schedule.edit.Goals as goal

pub returns-then-eq-clause-ok : goal.returns-then-eq-clause-ok
returns-then-eq-clause-ok g c =
    unchanged c.args.text.now c.text.result.now c.args.self.now c.args.at c.requires (sym c.if-eq.ensures) c.text.ensures

pub take_over-ran-requires-clause-fit : goal.take_over-ran-requires-clause-fit
take_over-ran-requires-clause-fit g c =
    let run : IsKept g.C.CellRunner.covers (book_of c.args.self.now) (each_of g.C.CellRunner.recorded c.self.inside.records.items) c.self.inside.words.items =
    subst (λ (s : Sheet). IsKept g.C.CellRunner.covers (book_of s) (each_of g.C.CellRunner.recorded c.self.inside.records.items) c.self.inside.words.items) c.self.view_is (c.self.invariant).0 in
    let many : length c.self.inside.records.items ≡ length c.args.self.now.cells = as_many (λ r. g.C.CellRunner.recorded r.value) (book_of c.args.self.now) c.self.inside.records.items run.run.records in
    subst (λ n. AreFit g.C.CellRunner.covers n (map (λ c'. fit_at c'.place (g.C.CellRunner.recorded c'.record.value) c'.word) c.in_ok-edited.edited.swept.changed.items)) (sym many)
    c.in_ok-edited.ensures.fit

pub invariant_of-self : goal.invariant_of-self
invariant_of-self g c =
    let run : IsKept g.C.CellRunner.covers (book_of c.args.self.now) (each_of g.C.CellRunner.recorded c.self.inside.records.items) c.self.inside.words.items =
    subst (λ (s : Sheet). IsKept g.C.CellRunner.covers (book_of s) (each_of g.C.CellRunner.recorded c.self.inside.records.items) c.self.inside.words.items) c.self.view_is (c.self.invariant).0 in
    let is : cell_of c.in_ok-cell.cell.value ≡ cell_of c.deref.result.now = ap cell_of (sym c.deref.ensures) in
    let label : c.deref.result.now.label ≡ (slice_index_or c.args.self.now.cells c.args.at no_cell).label = ap (λ (s : KeptCell). s.label) c.deref.ensures ∙ c.in_ok-cell.ensures.label in
    let long : length (each_of g.C.CellRunner.recorded c.take_over-ran.new.records.items) ≡ length (each_of g.C.CellRunner.recorded c.self.inside.records.items) =
    length-map c.take_over-ran.new.records.items (λ r. g.C.CellRunner.recorded r.value) ∙ c.take_over-ran.ensures.count ∙ sym (length-map c.self.inside.records.items (λ r. g.C.CellRunner.recorded r.value)) in
    let used : AreUsed c.self.inside.least c.args.self.now.cells = subst (λ (s : Sheet). AreUsed c.self.inside.least s.cells) c.self.view_is (c.self.invariant).2 in
    let kept : All (λ x. IsSnapshot (book_of c.args.self.now) x.place (g.C.CellRunner.kept_session x.version) (map g.C.CellRunner.change_of x.pending.items)) c.self.inside.snapshots.items =
    subst (λ (s : Sheet). All (λ x. IsSnapshot (book_of s) x.place (g.C.CellRunner.kept_session x.version) (map g.C.CellRunner.change_of x.pending.items)) c.self.inside.snapshots.items) c.self.view_is (c.self.invariant).1 in
    along (λ (s : Sheet). IsKept g.C.CellRunner.covers (book_of s) (each_of g.C.CellRunner.recorded c.take_over-ran.new.records.items) c.take_over-ran.new.words.items)
    (λ (s : Sheet). All (λ x. IsSnapshot (book_of s) x.place (g.C.CellRunner.kept_session x.version) (map g.C.CellRunner.change_of x.pending.items)) c.take_over-ran.new.snapshots.items) (AreUsed c.self.inside.least) _ _ (ap₂ sheet (cells_now c.self.inside.cells.items c.args.self.now.cells c.args.at c.in_ok-cell.cell (cell_of c.deref.result.now) (ap (λ (s : Sheet). s.cells) c.self.view_is) is) (ap (λ (s : Sheet). s.given) c.self.view_is))
    (kept_now g.C.CellRunner.covers c.args.self.now c.args.at (cell_of c.deref.result.now) _ (each_of g.C.CellRunner.recorded c.self.inside.records.items) (each_of g.C.CellRunner.recorded c.take_over-ran.new.records.items) c.self.inside.words.items c.take_over-ran.new.words.items c.requires label run
    c.in_ok-edited.ensures.changed long c.take_over-ran.ensures.many c.take_over-ran.ensures.records c.take_over-ran.ensures.words)
    (c.take_over-ran.ensures.snapshots (book_of c.args.self.now) (book_of (sheet (slice_set c.args.self.now.cells c.args.at (cell_of c.deref.result.now)) c.args.self.now.given)) (behind_set c.args.self.now c.args.at (cell_of c.deref.result.now) c.requires run.run.distinct label) c.in_ok-edited.ensures.noted c.in_ok-edited.ensures.fresh kept)
    (used_set c.self.inside.least c.args.self.now.cells c.args.at (cell_of c.deref.result.now) label used)

pub returns-clause-ok : goal.returns-clause-ok
returns-clause-ok g c =
    let new : ◌≡◌ {A = Cell} (cell_of c.in_ok-cell.cell.value) (record { label = (slice_index_or c.args.self.now.cells c.args.at no_cell).label; source = c.args.text.now }) =
    λ i. record { label = c.in_ok-cell.ensures.label i; source = c.in_ok-cell.ensures.text i } in
    ap₂ sheet (cells_now c.self.inside.cells.items c.args.self.now.cells c.args.at c.in_ok-cell.cell _ (ap (λ (s : Sheet). s.cells) c.self.view_is) new) (ap (λ (s : Sheet). s.given) c.self.view_is)

pub returns-clause-counts : goal.returns-clause-counts
returns-clause-counts g c =
    let new : ◌≡◌ {A = Cell} (cell_of c.in_ok-cell.cell.value) (record { label = (slice_index_or c.args.self.now.cells c.args.at no_cell).label; source = c.args.text.now }) =
    λ i. record { label = c.in_ok-cell.ensures.label i; source = c.in_ok-cell.ensures.text i } in
    subst (λ (x : Cell). CountsStale (book_of c.args.self.now) (book_of (sheet (slice_set c.args.self.now.cells c.args.at x) c.args.self.now.given)) c.args.meter.now c.swept_with.new.meter) (ap cell_of c.deref.ensures ∙ new) c.swept_with.ensures.counts

pub returns-in_err-edited-clause-counts : goal.returns-in_err-edited-clause-counts
returns-in_err-edited-clause-counts g c =
    let new : ◌≡◌ {A = Cell} (cell_of c.in_ok-cell.cell.value) (record { label = (slice_index_or c.args.self.now.cells c.args.at no_cell).label; source = c.args.text.now }) =
    λ i. record { label = c.in_ok-cell.ensures.label i; source = c.in_ok-cell.ensures.text i } in
    subst (λ (x : Cell). CountsStale (book_of c.args.self.now) (book_of (sheet (slice_set c.args.self.now.cells c.args.at x) c.args.self.now.given)) c.args.meter.now c.swept_with.new.meter) (ap cell_of c.deref.ensures ∙ new) c.swept_with.ensures.counts

pub swept_with-requires-clause-label : goal.swept_with-requires-clause-label
swept_with-requires-clause-label g c = ap (λ (s : KeptCell). s.label) c.deref.ensures ∙ c.in_ok-cell.ensures.label

pub take_over-ran-requires-clause-many : goal.take_over-ran-requires-clause-many
take_over-ran-requires-clause-many g c = ((c.self.invariant).0).many ∙ length-map c.self.inside.records.items (λ r. g.C.CellRunner.recorded r.value)

pub returns-clause-err : goal.returns-clause-err
returns-clause-err g c = tt

pub returns-in_err-cell-clause-counts : goal.returns-in_err-cell-clause-counts
returns-in_err-cell-clause-counts g c =
    let old : Book = book_of c.args.self.now in
    let new : Book = book_of (edited_sheet (Change c.args.at c.args.text.now) c.args.self.now) in
    counts_stale old new 0 c.args.meter.now c.args.meter.now (none_yet old new 0 c.args.meter.now)

pub returns-in_err-cell-clause-err : goal.returns-in_err-cell-clause-err
returns-in_err-cell-clause-err g c = at_err (c.args.self.now ≡ c.args.self.now) c.from_residual.result refl

pub returns-in_err-edited-clause-err : goal.returns-in_err-edited-clause-err
returns-in_err-edited-clause-err g c = at_err (c.args.self.now ≡ c.args.self.now) c.from_residual-in_err-edited.result refl

pub returns-then-eq-clause-counts : goal.returns-then-eq-clause-counts
returns-then-eq-clause-counts g c =
    let old : Book = book_of c.args.self.now in
    let new : Book = book_of (edited_sheet (Change c.args.at c.args.text.now) c.args.self.now) in
    counts_stale old new 0 c.args.meter.now c.args.meter.now (none_yet old new 0 c.args.meter.now)

pub returns-then-eq-clause-err : goal.returns-then-eq-clause-err
returns-then-eq-clause-err g c = tt

pub swept_with-requires-clause-at : goal.swept_with-requires-clause-at
swept_with-requires-clause-at g c = c.requires

pub swept_with-requires-clause-other : goal.swept_with-requires-clause-other
swept_with-requires-clause-other g c = grind (arith, common_steps)

pub returns-clause-ran : goal.returns-clause-ran
returns-clause-ran g c =
    let run : IsKept g.C.CellRunner.covers (book_of c.args.self.now) (each_of g.C.CellRunner.recorded c.self.inside.records.items) c.self.inside.words.items =
    subst (λ (s : Sheet). IsKept g.C.CellRunner.covers (book_of s) (each_of g.C.CellRunner.recorded c.self.inside.records.items) c.self.inside.words.items) c.self.view_is (c.self.invariant).0 in
    let new : ◌≡◌ {A = Cell} (cell_of c.in_ok-cell.cell.value) (record { label = (slice_index_or c.args.self.now.cells c.args.at no_cell).label; source = c.args.text.now }) =
    λ i. record { label = c.in_ok-cell.ensures.label i; source = c.in_ok-cell.ensures.text i } in
    let is : cell_of c.deref.result.now ≡ cell_of c.in_ok-cell.cell.value = ap cell_of c.deref.ensures in
    let label : c.deref.result.now.label ≡ (slice_index_or c.args.self.now.cells c.args.at no_cell).label = ap (λ (s : KeptCell). s.label) c.deref.ensures ∙ c.in_ok-cell.ensures.label in
    let other : bytes_eq (string_bytes c.deref.result.now.text) (slice_index_or c.args.self.now.cells c.args.at no_cell).source ≡ false = ap₂ bytes_eq (ap (λ (s : KeptCell). string_bytes s.text) c.deref.ensures ∙ c.in_ok-cell.ensures.text)
    (sym c.text.ensures) ∙ sym c.if-eq.ensures in
    let places : c.take_over-ran.result.items ≡ map (λ c'. shifted shifts.Stays c'.place) c.in_ok-edited.edited.swept.changed.items = ap (λ v. v.items) c.take_over-ran.ensures.ran ∙ c.in_ok-edited.ensures.ran in
    subst (λ (x : Cell). AreStale (book_of c.args.self.now) (book_of (sheet (slice_set c.args.self.now.cells c.args.at x) c.args.self.now.given)) c.take_over-ran.result.items) (is ∙ new)
    (subst (AreStale (book_of c.args.self.now) (book_of (sheet (slice_set c.args.self.now.cells c.args.at (cell_of c.deref.result.now)) c.args.self.now.given))) (sym places)
    (ran_edited (λ c'. change_at c'.place (g.C.CellRunner.recorded c'.record.value)) c.in_ok-edited.edited.swept.changed.items c.args.self.now c.args.at (cell_of c.deref.result.now) c.requires run.run.distinct label other c.in_ok-edited.ensures.changed))

pub returns-then-eq-clause-ran : goal.returns-then-eq-clause-ran
returns-then-eq-clause-ran g c =
    let run : IsKept g.C.CellRunner.covers (book_of c.args.self.now) (each_of g.C.CellRunner.recorded c.self.inside.records.items) c.self.inside.words.items =
    subst (λ (s : Sheet). IsKept g.C.CellRunner.covers (book_of s) (each_of g.C.CellRunner.recorded c.self.inside.records.items) c.self.inside.words.items) c.self.view_is (c.self.invariant).0 in
    subst (λ (s : Sheet). AreStale (book_of c.args.self.now) (book_of s) c.new.result.items)
    (unchanged c.args.text.now c.text.result.now c.args.self.now c.args.at c.requires (sym c.if-eq.ensures) c.text.ensures)
    (subst (AreStale (book_of c.args.self.now) (book_of c.args.self.now)) (sym c.new.ensures.items) (ran_nothing (book_of c.args.self.now) run.run.distinct))

pub index_mut-requires : goal.index_mut-requires
index_mut-requires g c = grind (arith, common_steps)
