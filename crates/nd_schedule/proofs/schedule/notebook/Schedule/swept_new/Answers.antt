use Rattle.std.proofs.Common.{◌≡◌, ◌+◌, ◌-◌, length, map, refl, sym, ap, subst, ◌∙◌, arith}
use Rattle.std.proofs.lemmas.Grind.{common_steps}
use Rattle.std.specs.Prelude.{insert}
use Rattle.nd_model.specs.Book.Book.{Book}
use Rattle.nd_model.specs.Book.Entries.{records_of}
use Rattle.nd_model.specs.Book.Notebook.{Sheet, book_of, world_in}
use Rattle.nd_schedule.specs.Cells.Source.{sheet, cell_of}
use Rattle.nd_schedule.specs.Cells.Shared.{each_of}
use Rattle.nd_schedule.specs.Schedule.Sweep.{AreChanged, AreFit, IsAt, IsKept, IsOpen, change_at, fit_at}
use Rattle.nd_schedule.proofs.schedule.Sweeping.{changed_none, counts_stale}
use Rattle.nd_schedule.proofs.schedule.Visiting.{open_frame}
use Rattle.nd_schedule.proofs.schedule.Inserting
use Rattle.nd_schedule.proofs.schedule.notebook.Schedule.swept_new.Goals as goal

pub run_new-requires-clause-none : goal.run_new-requires-clause-none
run_new-requires-clause-none g c =
    let run : IsKept g.C.CellRunner.covers (book_of c.args.self.now) (each_of g.C.CellRunner.recorded c.self.inside.records.items) c.self.inside.words.items =
    subst (λ (s : Sheet). IsKept g.C.CellRunner.covers (book_of s) (each_of g.C.CellRunner.recorded c.self.inside.records.items) c.self.inside.words.items) c.self.view_is (c.self.invariant).0 in
    Inserting.none_here c.args.self.now c.args.at (cell_of c.args.source.now) c.requires.at run.run.distinct c.requires.label (g.C.CellRunner.session_of c.begin-state.result.session) c.begin-state.ensures.stands

pub returns-in-Err-clause-counts : goal.returns-in-Err-clause-counts
returns-in-Err-clause-counts g c =
    let run : IsKept g.C.CellRunner.covers (book_of c.args.self.now) (each_of g.C.CellRunner.recorded c.self.inside.records.items) c.self.inside.words.items =
    subst (λ (s : Sheet). IsKept g.C.CellRunner.covers (book_of s) (each_of g.C.CellRunner.recorded c.self.inside.records.items) c.self.inside.words.items) c.self.view_is (c.self.invariant).0 in
    let old : Book = book_of c.args.self.now in
    let new : Book = book_of (sheet (insert c.args.self.now.cells c.args.at (cell_of c.args.source.now)) c.args.self.now.given) in
    counts_stale old new (c.args.at + 1) c.args.meter.now c.run_new.new.meter (Inserting.first_counts c.args.self.now c.args.at (cell_of c.args.source.now) c.requires.at run.run.distinct c.requires.label c.args.meter.now c.run_new.new.meter c.run_new.ensures.counted)

pub swept_behind-requires-clause-at : goal.swept_behind-requires-clause-at
swept_behind-requires-clause-at g c =
    let run : IsKept g.C.CellRunner.covers (book_of c.args.self.now) (each_of g.C.CellRunner.recorded c.self.inside.records.items) c.self.inside.words.items =
    subst (λ (s : Sheet). IsKept g.C.CellRunner.covers (book_of s) (each_of g.C.CellRunner.recorded c.self.inside.records.items) c.self.inside.words.items) c.self.view_is (c.self.invariant).0 in
    let old : Book = book_of c.args.self.now in
    let new : Book = book_of (sheet (insert c.args.self.now.cells c.args.at (cell_of c.args.source.now)) c.args.self.now.given) in
    let same : world_in (g.C.CellRunner.given c.self.inside.world) ≡ new.world = ap (λ (s : Sheet). world_in s.given) c.self.view_is in
    let ahead : IsOpen old new c.args.at (c.args.at + 1) (world_in (g.C.CellRunner.given c.self.inside.world)) =
    open_frame old new _ _ _ _ _ _ (Inserting.frame_behind c.args.self.now c.args.at (cell_of c.args.source.now) c.requires.at run.run.distinct c.requires.label c.args.self.now.cells (records_of old) new.world (length c.args.self.now.cells) refl refl refl refl) (sym same) in
    let first : IsAt old new c.args.at (c.args.at + 1) (g.C.CellRunner.change_of c.run_new.new.state.change) (g.C.CellRunner.session_of c.run_new.new.state.session) c.args.at =
    Inserting.came_at c.args.self.now c.args.at (cell_of c.args.source.now) c.requires.at run.run.distinct c.requires.label (g.C.CellRunner.session_of c.begin-state.result.session) c.begin-state.ensures.stands (g.C.CellRunner.change_of c.begin-state.result.change) _ (g.C.CellRunner.recorded c.in-Ok.new.record.value) _ _
    c.begin-state.ensures.none same c.in-Ok.ensures.made c.in-Ok.ensures.after c.in-Ok.ensures.comes in
    let at : IsAt old new c.args.at (c.args.at + 1) (g.C.CellRunner.change_of c.run_new.new.state.change) (g.C.CellRunner.session_of c.run_new.new.state.session) c.run_new.new.state.since =
    subst (IsAt old new c.args.at (c.args.at + 1) (g.C.CellRunner.change_of c.run_new.new.state.change) (g.C.CellRunner.session_of c.run_new.new.state.session)) (sym (c.in-Ok.ensures.since ∙ c.begin-state.ensures.since)) first in
    (new, c.args.at + 1, ahead, at)

pub swept_behind-requires-clause-covered : goal.swept_behind-requires-clause-covered
swept_behind-requires-clause-covered g c = c.in-Ok.ensures.word

pub returns-clause-counts : goal.returns-clause-counts
returns-clause-counts g c =
    let run : IsKept g.C.CellRunner.covers (book_of c.args.self.now) (each_of g.C.CellRunner.recorded c.self.inside.records.items) c.self.inside.words.items =
    subst (λ (s : Sheet). IsKept g.C.CellRunner.covers (book_of s) (each_of g.C.CellRunner.recorded c.self.inside.records.items) c.self.inside.words.items) c.self.view_is (c.self.invariant).0 in
    let old : Book = book_of c.args.self.now in
    let new : Book = book_of (sheet (insert c.args.self.now.cells c.args.at (cell_of c.args.source.now)) c.args.self.now.given) in
    let same : world_in (g.C.CellRunner.given c.self.inside.world) ≡ new.world = ap (λ (s : Sheet). world_in s.given) c.self.view_is in
    let ahead : IsOpen old new c.args.at (c.args.at + 1) (world_in (g.C.CellRunner.given c.self.inside.world)) =
    open_frame old new _ _ _ _ _ _ (Inserting.frame_behind c.args.self.now c.args.at (cell_of c.args.source.now) c.requires.at run.run.distinct c.requires.label c.args.self.now.cells (records_of old) new.world (length c.args.self.now.cells) refl refl refl refl) (sym same) in
    let first : IsAt old new c.args.at (c.args.at + 1) (g.C.CellRunner.change_of c.run_new.new.state.change) (g.C.CellRunner.session_of c.run_new.new.state.session) c.args.at =
    Inserting.came_at c.args.self.now c.args.at (cell_of c.args.source.now) c.requires.at run.run.distinct c.requires.label (g.C.CellRunner.session_of c.begin-state.result.session) c.begin-state.ensures.stands (g.C.CellRunner.change_of c.begin-state.result.change) _ (g.C.CellRunner.recorded c.in-Ok.new.record.value) _ _
    c.begin-state.ensures.none same c.in-Ok.ensures.made c.in-Ok.ensures.after c.in-Ok.ensures.comes in
    let at : IsAt old new c.args.at (c.args.at + 1) (g.C.CellRunner.change_of c.run_new.new.state.change) (g.C.CellRunner.session_of c.run_new.new.state.session) c.run_new.new.state.since =
    subst (IsAt old new c.args.at (c.args.at + 1) (g.C.CellRunner.change_of c.run_new.new.state.change) (g.C.CellRunner.session_of c.run_new.new.state.session)) (sym (c.in-Ok.ensures.since ∙ c.begin-state.ensures.since)) first in
    c.swept_behind.ensures.counts new (c.args.at + 1) c.args.meter.now ahead at (Inserting.first_counts c.args.self.now c.args.at (cell_of c.args.source.now) c.requires.at run.run.distinct c.requires.label c.args.meter.now c.run_new.new.meter c.run_new.ensures.counted)

pub returns-in_err-swept-clause-counts : goal.returns-in_err-swept-clause-counts
returns-in_err-swept-clause-counts g c =
    let run : IsKept g.C.CellRunner.covers (book_of c.args.self.now) (each_of g.C.CellRunner.recorded c.self.inside.records.items) c.self.inside.words.items =
    subst (λ (s : Sheet). IsKept g.C.CellRunner.covers (book_of s) (each_of g.C.CellRunner.recorded c.self.inside.records.items) c.self.inside.words.items) c.self.view_is (c.self.invariant).0 in
    let old : Book = book_of c.args.self.now in
    let new : Book = book_of (sheet (insert c.args.self.now.cells c.args.at (cell_of c.args.source.now)) c.args.self.now.given) in
    let same : world_in (g.C.CellRunner.given c.self.inside.world) ≡ new.world = ap (λ (s : Sheet). world_in s.given) c.self.view_is in
    let ahead : IsOpen old new c.args.at (c.args.at + 1) (world_in (g.C.CellRunner.given c.self.inside.world)) =
    open_frame old new _ _ _ _ _ _ (Inserting.frame_behind c.args.self.now c.args.at (cell_of c.args.source.now) c.requires.at run.run.distinct c.requires.label c.args.self.now.cells (records_of old) new.world (length c.args.self.now.cells) refl refl refl refl) (sym same) in
    let first : IsAt old new c.args.at (c.args.at + 1) (g.C.CellRunner.change_of c.run_new.new.state.change) (g.C.CellRunner.session_of c.run_new.new.state.session) c.args.at =
    Inserting.came_at c.args.self.now c.args.at (cell_of c.args.source.now) c.requires.at run.run.distinct c.requires.label (g.C.CellRunner.session_of c.begin-state.result.session) c.begin-state.ensures.stands (g.C.CellRunner.change_of c.begin-state.result.change) _ (g.C.CellRunner.recorded c.in-Ok.new.record.value) _ _
    c.begin-state.ensures.none same c.in-Ok.ensures.made c.in-Ok.ensures.after c.in-Ok.ensures.comes in
    let at : IsAt old new c.args.at (c.args.at + 1) (g.C.CellRunner.change_of c.run_new.new.state.change) (g.C.CellRunner.session_of c.run_new.new.state.session) c.run_new.new.state.since =
    subst (IsAt old new c.args.at (c.args.at + 1) (g.C.CellRunner.change_of c.run_new.new.state.change) (g.C.CellRunner.session_of c.run_new.new.state.session)) (sym (c.in-Ok.ensures.since ∙ c.begin-state.ensures.since)) first in
    c.swept_behind.ensures.counts new (c.args.at + 1) c.args.meter.now ahead at (Inserting.first_counts c.args.self.now c.args.at (cell_of c.args.source.now) c.requires.at run.run.distinct c.requires.label c.args.meter.now c.run_new.new.meter c.run_new.ensures.counted)

pub returns-clause-changed : goal.returns-clause-changed
returns-clause-changed g c =
    let run : IsKept g.C.CellRunner.covers (book_of c.args.self.now) (each_of g.C.CellRunner.recorded c.self.inside.records.items) c.self.inside.words.items =
    subst (λ (s : Sheet). IsKept g.C.CellRunner.covers (book_of s) (each_of g.C.CellRunner.recorded c.self.inside.records.items) c.self.inside.words.items) c.self.view_is (c.self.invariant).0 in
    let old : Book = book_of c.args.self.now in
    let new : Book = book_of (sheet (insert c.args.self.now.cells c.args.at (cell_of c.args.source.now)) c.args.self.now.given) in
    let same : world_in (g.C.CellRunner.given c.self.inside.world) ≡ new.world = ap (λ (s : Sheet). world_in s.given) c.self.view_is in
    let ahead : IsOpen old new c.args.at (c.args.at + 1) (world_in (g.C.CellRunner.given c.self.inside.world)) =
    open_frame old new _ _ _ _ _ _ (Inserting.frame_behind c.args.self.now c.args.at (cell_of c.args.source.now) c.requires.at run.run.distinct c.requires.label c.args.self.now.cells (records_of old) new.world (length c.args.self.now.cells) refl refl refl refl) (sym same) in
    let first : IsAt old new c.args.at (c.args.at + 1) (g.C.CellRunner.change_of c.run_new.new.state.change) (g.C.CellRunner.session_of c.run_new.new.state.session) c.args.at =
    Inserting.came_at c.args.self.now c.args.at (cell_of c.args.source.now) c.requires.at run.run.distinct c.requires.label (g.C.CellRunner.session_of c.begin-state.result.session) c.begin-state.ensures.stands (g.C.CellRunner.change_of c.begin-state.result.change) _ (g.C.CellRunner.recorded c.in-Ok.new.record.value) _ _
    c.begin-state.ensures.none same c.in-Ok.ensures.made c.in-Ok.ensures.after c.in-Ok.ensures.comes in
    let at : IsAt old new c.args.at (c.args.at + 1) (g.C.CellRunner.change_of c.run_new.new.state.change) (g.C.CellRunner.session_of c.run_new.new.state.session) c.run_new.new.state.since =
    subst (IsAt old new c.args.at (c.args.at + 1) (g.C.CellRunner.change_of c.run_new.new.state.change) (g.C.CellRunner.session_of c.run_new.new.state.session)) (sym (c.in-Ok.ensures.since ∙ c.begin-state.ensures.since)) first in
    let step : c.args.at + 1 ≡ c.args.at + 1 + (c.args.at - c.args.at) = omega arith in
    c.in_ok-swept.ensures.changed new (c.args.at + 1) c.args.at (c.args.at + 1) ahead at (omega arith) step
    (subst (λ xs. AreChanged old new c.args.at (c.args.at + 1) c.args.at (map (λ c'. change_at c'.place (g.C.CellRunner.recorded c'.record.value)) xs)) (sym (c.in-Ok.ensures.changed ∙ c.begin-state.ensures.changed)) (changed_none old new c.args.at (c.args.at + 1)))

pub returns-clause-fit : goal.returns-clause-fit
returns-clause-fit g c =
    c.in_ok-swept.ensures.fit (subst (λ xs. AreFit g.C.CellRunner.covers (length c.args.self.now.cells) (map (λ c'. fit_at c'.place (g.C.CellRunner.recorded c'.record.value) c'.word) xs)) (sym (c.in-Ok.ensures.changed ∙ c.begin-state.ensures.changed)) tt)

pub returns-clause-made : goal.returns-clause-made
returns-clause-made g c =
    let run : IsKept g.C.CellRunner.covers (book_of c.args.self.now) (each_of g.C.CellRunner.recorded c.self.inside.records.items) c.self.inside.words.items =
    subst (λ (s : Sheet). IsKept g.C.CellRunner.covers (book_of s) (each_of g.C.CellRunner.recorded c.self.inside.records.items) c.self.inside.words.items) c.self.view_is (c.self.invariant).0 in
    let old : Book = book_of c.args.self.now in
    let new : Book = book_of (sheet (insert c.args.self.now.cells c.args.at (cell_of c.args.source.now)) c.args.self.now.given) in
    let same : world_in (g.C.CellRunner.given c.self.inside.world) ≡ new.world = ap (λ (s : Sheet). world_in s.given) c.self.view_is in
    c.in-Ok.ensures.made ∙ Inserting.run_record c.args.self.now c.args.at (cell_of c.args.source.now) c.requires.at run.run.distinct c.requires.label (g.C.CellRunner.session_of c.begin-state.result.session) c.begin-state.ensures.stands _ same

pub returns-clause-noted : goal.returns-clause-noted
returns-clause-noted g c =
    let run : IsKept g.C.CellRunner.covers (book_of c.args.self.now) (each_of g.C.CellRunner.recorded c.self.inside.records.items) c.self.inside.words.items =
    subst (λ (s : Sheet). IsKept g.C.CellRunner.covers (book_of s) (each_of g.C.CellRunner.recorded c.self.inside.records.items) c.self.inside.words.items) c.self.view_is (c.self.invariant).0 in
    let old : Book = book_of c.args.self.now in
    let new : Book = book_of (sheet (insert c.args.self.now.cells c.args.at (cell_of c.args.source.now)) c.args.self.now.given) in
    let same : world_in (g.C.CellRunner.given c.self.inside.world) ≡ new.world = ap (λ (s : Sheet). world_in s.given) c.self.view_is in
    let ahead : IsOpen old new c.args.at (c.args.at + 1) (world_in (g.C.CellRunner.given c.self.inside.world)) =
    open_frame old new _ _ _ _ _ _ (Inserting.frame_behind c.args.self.now c.args.at (cell_of c.args.source.now) c.requires.at run.run.distinct c.requires.label c.args.self.now.cells (records_of old) new.world (length c.args.self.now.cells) refl refl refl refl) (sym same) in
    let first : IsAt old new c.args.at (c.args.at + 1) (g.C.CellRunner.change_of c.run_new.new.state.change) (g.C.CellRunner.session_of c.run_new.new.state.session) c.args.at =
    Inserting.came_at c.args.self.now c.args.at (cell_of c.args.source.now) c.requires.at run.run.distinct c.requires.label (g.C.CellRunner.session_of c.begin-state.result.session) c.begin-state.ensures.stands (g.C.CellRunner.change_of c.begin-state.result.change) _ (g.C.CellRunner.recorded c.in-Ok.new.record.value) _ _
    c.begin-state.ensures.none same c.in-Ok.ensures.made c.in-Ok.ensures.after c.in-Ok.ensures.comes in
    let at : IsAt old new c.args.at (c.args.at + 1) (g.C.CellRunner.change_of c.run_new.new.state.change) (g.C.CellRunner.session_of c.run_new.new.state.session) c.run_new.new.state.since =
    subst (IsAt old new c.args.at (c.args.at + 1) (g.C.CellRunner.change_of c.run_new.new.state.change) (g.C.CellRunner.session_of c.run_new.new.state.session)) (sym (c.in-Ok.ensures.since ∙ c.begin-state.ensures.since)) first in
    c.in_ok-swept.ensures.noted new ahead at

pub overflow_add-at : goal.overflow_add-at
overflow_add-at g c = grind (arith, common_steps)

pub returns-clause-worded : goal.returns-clause-worded
returns-clause-worded g c = c.in-Ok.ensures.worded
