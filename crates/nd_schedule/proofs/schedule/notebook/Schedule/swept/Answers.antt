use Rattle.std.proofs.Common.{◌≡◌, ◌+◌, ◌-◌, length, map, refl, sym, ap, subst, arith}
use Rattle.std.proofs.lemmas.Grind.{common_steps}
use Rattle.std.specs.Prelude.{slice_set}
use Rattle.nd_model.specs.Book.Book.{Book}
use Rattle.nd_model.specs.Book.Entries.{records_of}
use Rattle.nd_model.specs.Book.Notebook.{Sheet, book_of, world_in}
use Rattle.nd_schedule.specs.Cells.Source.{sheet, cell_of}
use Rattle.nd_schedule.specs.Cells.Shared.{each_of}
use Rattle.nd_schedule.specs.Schedule.Sweep.{AreFit, IsAt, IsKept, IsOpen, change_at, fit_at}
use Rattle.nd_schedule.proofs.schedule.Sweeping.{counts_stale}
use Rattle.nd_schedule.proofs.schedule.Visiting.{open_frame}
use Rattle.nd_schedule.proofs.schedule.Editing
use Rattle.nd_schedule.proofs.schedule.Turning.{if_ok_more}
use Rattle.nd_schedule.proofs.schedule.notebook.Schedule.swept.Goals as goal

pub run_again-requires-clause-none : goal.run_again-requires-clause-none
run_again-requires-clause-none g c =
    let run : IsKept g.C.CellRunner.covers (book_of c.args.self.now) (each_of g.C.CellRunner.recorded c.self.inside.records.items) c.self.inside.words.items =
    subst (λ (s : Sheet). IsKept g.C.CellRunner.covers (book_of s) (each_of g.C.CellRunner.recorded c.self.inside.records.items) c.self.inside.words.items) c.self.view_is (c.self.invariant).0 in
    Editing.none_here c.args.self.now c.args.at (cell_of c.args.source.now) c.requires.at run.run.distinct c.requires.label c.requires.other (g.C.CellRunner.session_of c.begin-state.result.session) c.begin-state.ensures.stands

pub returns-in-Err-clause-counts : goal.returns-in-Err-clause-counts
returns-in-Err-clause-counts g c =
    let run : IsKept g.C.CellRunner.covers (book_of c.args.self.now) (each_of g.C.CellRunner.recorded c.self.inside.records.items) c.self.inside.words.items =
    subst (λ (s : Sheet). IsKept g.C.CellRunner.covers (book_of s) (each_of g.C.CellRunner.recorded c.self.inside.records.items) c.self.inside.words.items) c.self.view_is (c.self.invariant).0 in
    let old : Book = book_of c.args.self.now in
    let new : Book = book_of (sheet (slice_set c.args.self.now.cells c.args.at (cell_of c.args.source.now)) c.args.self.now.given) in
    counts_stale old new (c.args.at + 1) c.args.meter.now c.run_again.new.meter (Editing.first_counts c.args.self.now c.args.at (cell_of c.args.source.now) c.requires.at run.run.distinct c.requires.label c.requires.other c.args.meter.now c.run_again.new.meter c.run_again.ensures.counted)

pub swept_behind-requires-clause-order : goal.swept_behind-requires-clause-order
swept_behind-requires-clause-order g c = omega (arith, c.requires.at)

pub swept_behind-requires-clause-at : goal.swept_behind-requires-clause-at
swept_behind-requires-clause-at g c =
    let run : IsKept g.C.CellRunner.covers (book_of c.args.self.now) (each_of g.C.CellRunner.recorded c.self.inside.records.items) c.self.inside.words.items =
    subst (λ (s : Sheet). IsKept g.C.CellRunner.covers (book_of s) (each_of g.C.CellRunner.recorded c.self.inside.records.items) c.self.inside.words.items) c.self.view_is (c.self.invariant).0 in
    let old : Book = book_of c.args.self.now in
    let new : Book = book_of (sheet (slice_set c.args.self.now.cells c.args.at (cell_of c.args.source.now)) c.args.self.now.given) in
    let same : world_in (g.C.CellRunner.given c.self.inside.world) ≡ new.world = ap (λ (s : Sheet). world_in s.given) c.self.view_is in
    let ahead : IsOpen old new (c.args.at + 1) (c.args.at + 1) (world_in (g.C.CellRunner.given c.self.inside.world)) =
    open_frame old new _ _ _ _ _ _ (Editing.frame_behind c.args.self.now c.args.at (cell_of c.args.source.now) c.requires.at run.run.distinct c.requires.label c.requires.other c.args.self.now.cells (records_of old) new.world (length c.args.self.now.cells) refl refl refl refl) (sym same) in
    let at : IsAt old new (c.args.at + 1) (c.args.at + 1) (g.C.CellRunner.change_of c.run_again.new.state.change) (g.C.CellRunner.session_of c.run_again.new.state.session) c.run_again.new.state.since =
    Editing.first_at c.args.self.now c.args.at (cell_of c.args.source.now) c.requires.at run.run.distinct c.requires.label c.requires.other (g.C.CellRunner.session_of c.begin-state.result.session) c.begin-state.ensures.stands (g.C.CellRunner.change_of c.begin-state.result.change) _ (g.C.CellRunner.recorded c.record_at-before.result.now) _ (world_in (g.C.CellRunner.given c.self.inside.world)) _
    c.begin-state.ensures.none c.record_at-before.ensures.recorded same c.in-Ok.ensures.after c.in-Ok.ensures.follows c.in-Ok.ensures.since in
    (new, c.args.at + 1, ahead, at)

pub swept_behind-requires-clause-covered : goal.swept_behind-requires-clause-covered
swept_behind-requires-clause-covered g c = c.in-Ok.ensures.word

pub returns-clause-counts : goal.returns-clause-counts
returns-clause-counts g c =
    let run : IsKept g.C.CellRunner.covers (book_of c.args.self.now) (each_of g.C.CellRunner.recorded c.self.inside.records.items) c.self.inside.words.items =
    subst (λ (s : Sheet). IsKept g.C.CellRunner.covers (book_of s) (each_of g.C.CellRunner.recorded c.self.inside.records.items) c.self.inside.words.items) c.self.view_is (c.self.invariant).0 in
    let old : Book = book_of c.args.self.now in
    let new : Book = book_of (sheet (slice_set c.args.self.now.cells c.args.at (cell_of c.args.source.now)) c.args.self.now.given) in
    let same : world_in (g.C.CellRunner.given c.self.inside.world) ≡ new.world = ap (λ (s : Sheet). world_in s.given) c.self.view_is in
    let ahead : IsOpen old new (c.args.at + 1) (c.args.at + 1) (world_in (g.C.CellRunner.given c.self.inside.world)) =
    open_frame old new _ _ _ _ _ _ (Editing.frame_behind c.args.self.now c.args.at (cell_of c.args.source.now) c.requires.at run.run.distinct c.requires.label c.requires.other c.args.self.now.cells (records_of old) new.world (length c.args.self.now.cells) refl refl refl refl) (sym same) in
    let at : IsAt old new (c.args.at + 1) (c.args.at + 1) (g.C.CellRunner.change_of c.run_again.new.state.change) (g.C.CellRunner.session_of c.run_again.new.state.session) c.run_again.new.state.since =
    Editing.first_at c.args.self.now c.args.at (cell_of c.args.source.now) c.requires.at run.run.distinct c.requires.label c.requires.other (g.C.CellRunner.session_of c.begin-state.result.session) c.begin-state.ensures.stands (g.C.CellRunner.change_of c.begin-state.result.change) _ (g.C.CellRunner.recorded c.record_at-before.result.now) _ (world_in (g.C.CellRunner.given c.self.inside.world)) _
    c.begin-state.ensures.none c.record_at-before.ensures.recorded same c.in-Ok.ensures.after c.in-Ok.ensures.follows c.in-Ok.ensures.since in
    c.swept_behind.ensures.counts new (c.args.at + 1) c.args.meter.now ahead at (Editing.first_counts c.args.self.now c.args.at (cell_of c.args.source.now) c.requires.at run.run.distinct c.requires.label c.requires.other c.args.meter.now c.run_again.new.meter c.run_again.ensures.counted)

pub returns-clause-changed : goal.returns-clause-changed
returns-clause-changed g c =
    let run : IsKept g.C.CellRunner.covers (book_of c.args.self.now) (each_of g.C.CellRunner.recorded c.self.inside.records.items) c.self.inside.words.items =
    subst (λ (s : Sheet). IsKept g.C.CellRunner.covers (book_of s) (each_of g.C.CellRunner.recorded c.self.inside.records.items) c.self.inside.words.items) c.self.view_is (c.self.invariant).0 in
    let old : Book = book_of c.args.self.now in
    let new : Book = book_of (sheet (slice_set c.args.self.now.cells c.args.at (cell_of c.args.source.now)) c.args.self.now.given) in
    let same : world_in (g.C.CellRunner.given c.self.inside.world) ≡ new.world = ap (λ (s : Sheet). world_in s.given) c.self.view_is in
    let ahead : IsOpen old new (c.args.at + 1) (c.args.at + 1) (world_in (g.C.CellRunner.given c.self.inside.world)) =
    open_frame old new _ _ _ _ _ _ (Editing.frame_behind c.args.self.now c.args.at (cell_of c.args.source.now) c.requires.at run.run.distinct c.requires.label c.requires.other c.args.self.now.cells (records_of old) new.world (length c.args.self.now.cells) refl refl refl refl) (sym same) in
    let at : IsAt old new (c.args.at + 1) (c.args.at + 1) (g.C.CellRunner.change_of c.run_again.new.state.change) (g.C.CellRunner.session_of c.run_again.new.state.session) c.run_again.new.state.since =
    Editing.first_at c.args.self.now c.args.at (cell_of c.args.source.now) c.requires.at run.run.distinct c.requires.label c.requires.other (g.C.CellRunner.session_of c.begin-state.result.session) c.begin-state.ensures.stands (g.C.CellRunner.change_of c.begin-state.result.change) _ (g.C.CellRunner.recorded c.record_at-before.result.now) _ (world_in (g.C.CellRunner.given c.self.inside.world)) _
    c.begin-state.ensures.none c.record_at-before.ensures.recorded same c.in-Ok.ensures.after c.in-Ok.ensures.follows c.in-Ok.ensures.since in
    let step : c.args.at + 1 ≡ c.args.at + (c.args.at + 1 - c.args.at) = omega arith in
    if_ok_more c.swept_behind.result c.swept_behind.ensures.changed (λ s h. h new (c.args.at + 1) c.args.at c.args.at ahead at (omega arith) step
    (Editing.first_changed c.args.self.now c.args.at (cell_of c.args.source.now) c.requires.at run.run.distinct c.requires.label c.requires.other (g.C.CellRunner.session_of c.begin-state.result.session) c.begin-state.ensures.stands _ _ _ same
    (ap (map (λ c'. change_at c'.place (g.C.CellRunner.recorded c'.record.value))) c.begin-state.ensures.changed) c.in-Ok.ensures.changed))

pub returns-clause-fit : goal.returns-clause-fit
returns-clause-fit g c =
    if_ok_more c.swept_behind.result c.swept_behind.ensures.fit (λ s h. h (c.in-Ok.ensures.fit (length c.args.self.now.cells) c.requires.at
    (subst (λ xs. AreFit g.C.CellRunner.covers (length c.args.self.now.cells) (map (λ c'. fit_at c'.place (g.C.CellRunner.recorded c'.record.value) c'.word) xs)) (sym c.begin-state.ensures.changed) tt)))

pub returns-clause-noted : goal.returns-clause-noted
returns-clause-noted g c =
    let run : IsKept g.C.CellRunner.covers (book_of c.args.self.now) (each_of g.C.CellRunner.recorded c.self.inside.records.items) c.self.inside.words.items =
    subst (λ (s : Sheet). IsKept g.C.CellRunner.covers (book_of s) (each_of g.C.CellRunner.recorded c.self.inside.records.items) c.self.inside.words.items) c.self.view_is (c.self.invariant).0 in
    let old : Book = book_of c.args.self.now in
    let new : Book = book_of (sheet (slice_set c.args.self.now.cells c.args.at (cell_of c.args.source.now)) c.args.self.now.given) in
    let same : world_in (g.C.CellRunner.given c.self.inside.world) ≡ new.world = ap (λ (s : Sheet). world_in s.given) c.self.view_is in
    let ahead : IsOpen old new (c.args.at + 1) (c.args.at + 1) (world_in (g.C.CellRunner.given c.self.inside.world)) =
    open_frame old new _ _ _ _ _ _ (Editing.frame_behind c.args.self.now c.args.at (cell_of c.args.source.now) c.requires.at run.run.distinct c.requires.label c.requires.other c.args.self.now.cells (records_of old) new.world (length c.args.self.now.cells) refl refl refl refl) (sym same) in
    let at : IsAt old new (c.args.at + 1) (c.args.at + 1) (g.C.CellRunner.change_of c.run_again.new.state.change) (g.C.CellRunner.session_of c.run_again.new.state.session) c.run_again.new.state.since =
    Editing.first_at c.args.self.now c.args.at (cell_of c.args.source.now) c.requires.at run.run.distinct c.requires.label c.requires.other (g.C.CellRunner.session_of c.begin-state.result.session) c.begin-state.ensures.stands (g.C.CellRunner.change_of c.begin-state.result.change) _ (g.C.CellRunner.recorded c.record_at-before.result.now) _ (world_in (g.C.CellRunner.given c.self.inside.world)) _
    c.begin-state.ensures.none c.record_at-before.ensures.recorded same c.in-Ok.ensures.after c.in-Ok.ensures.follows c.in-Ok.ensures.since in
    if_ok_more c.swept_behind.result c.swept_behind.ensures.noted (λ s h. h new ahead at)

pub overflow_add-at : goal.overflow_add-at
overflow_add-at g c = grind (arith, common_steps)

pub overflow_add-at-2 : goal.overflow_add-at-2
overflow_add-at-2 g c = grind (arith, common_steps)

pub run_again-requires-clause-fits : goal.run_again-requires-clause-fits
run_again-requires-clause-fits g c = grind (arith, common_steps)

pub begin-state-requires-clause-at : goal.begin-state-requires-clause-at
begin-state-requires-clause-at g c = grind (arith, common_steps)
