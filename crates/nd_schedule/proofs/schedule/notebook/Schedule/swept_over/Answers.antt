use Rattle.std.proofs.Common.{◌≡◌, ◌+◌, ◌-◌, length, map, refl, sym, ap, subst, arith}
use Rattle.nd_model.specs.Book.Book.{Book}
use Rattle.nd_model.specs.Book.Entries.{records_of}
use Rattle.nd_model.specs.Cells.Running.{World}
use Rattle.nd_model.specs.Book.Notebook.{Sheet, book_of, world_in}
use Rattle.nd_schedule.specs.Cells.Source.{sheet}
use Rattle.nd_schedule.specs.Cells.Shared.{each_of}
use Rattle.nd_change.specs.Change.{IsOver}
use Rattle.nd_schedule.specs.Schedule.Sweep.{AreChanged, AreFit, IsAt, IsKept, IsOpen, change_at, fit_at}
use Rattle.nd_schedule.proofs.schedule.Sweeping.{changed_none, none_yet}
use Rattle.nd_schedule.proofs.schedule.Visiting.{open_frame}
use Rattle.nd_schedule.proofs.schedule.Editing
use Rattle.nd_schedule.proofs.schedule.Turning.{if_ok_more}
use Rattle.nd_schedule.proofs.schedule.notebook.Schedule.swept_over.Goals as goal

pub swept_behind-requires-clause-at : goal.swept_behind-requires-clause-at
swept_behind-requires-clause-at g c =
    let run : IsKept g.C.CellRunner.covers (book_of c.args.self.now) (each_of g.C.CellRunner.recorded c.self.inside.records.items) c.self.inside.words.items =
    subst (λ (s : Sheet). IsKept g.C.CellRunner.covers (book_of s) (each_of g.C.CellRunner.recorded c.self.inside.records.items) c.self.inside.words.items) c.self.view_is (c.self.invariant).0 in
    let old : Book = book_of c.args.self.now in
    let new : Book = book_of (sheet c.args.self.now.cells (g.C.CellRunner.given c.args.world.now)) in
    let ahead : IsOpen old new 0 0 (world_in (g.C.CellRunner.given c.args.world.now)) =
    open_frame old new _ _ _ _ _ _ (Editing.frame_whole c.args.self.now (g.C.CellRunner.given c.args.world.now) run.run.distinct c.args.self.now.cells (records_of old) new.world (length c.args.self.now.cells) refl refl refl refl) refl in
    let at : IsAt old new 0 0 (g.C.CellRunner.change_of c.in_ok-change.change) (g.C.CellRunner.session_of c.in_ok-session.session) 0 =
    Editing.inputs_at c.args.self.now (g.C.CellRunner.given c.args.world.now) run.run.distinct (g.C.CellRunner.change_of c.in_ok-change.change) _
    (λ t. subst (λ (i : World). IsOver (g.C.CellRunner.change_of c.in_ok-change.change) t i t new.world) (ap (λ (s : Sheet). world_in s.given) c.self.view_is) (c.in_ok-change.ensures t)) c.in_ok-session.ensures in
    (new, 0, ahead, at)

pub returns-clause-counts : goal.returns-clause-counts
returns-clause-counts g c =
    let run : IsKept g.C.CellRunner.covers (book_of c.args.self.now) (each_of g.C.CellRunner.recorded c.self.inside.records.items) c.self.inside.words.items =
    subst (λ (s : Sheet). IsKept g.C.CellRunner.covers (book_of s) (each_of g.C.CellRunner.recorded c.self.inside.records.items) c.self.inside.words.items) c.self.view_is (c.self.invariant).0 in
    let old : Book = book_of c.args.self.now in
    let new : Book = book_of (sheet c.args.self.now.cells (g.C.CellRunner.given c.args.world.now)) in
    let ahead : IsOpen old new 0 0 (world_in (g.C.CellRunner.given c.args.world.now)) =
    open_frame old new _ _ _ _ _ _ (Editing.frame_whole c.args.self.now (g.C.CellRunner.given c.args.world.now) run.run.distinct c.args.self.now.cells (records_of old) new.world (length c.args.self.now.cells) refl refl refl refl) refl in
    let at : IsAt old new 0 0 (g.C.CellRunner.change_of c.in_ok-change.change) (g.C.CellRunner.session_of c.in_ok-session.session) 0 =
    Editing.inputs_at c.args.self.now (g.C.CellRunner.given c.args.world.now) run.run.distinct (g.C.CellRunner.change_of c.in_ok-change.change) _
    (λ t. subst (λ (i : World). IsOver (g.C.CellRunner.change_of c.in_ok-change.change) t i t new.world) (ap (λ (s : Sheet). world_in s.given) c.self.view_is) (c.in_ok-change.ensures t)) c.in_ok-session.ensures in
    c.swept_behind.ensures.counts new 0 c.args.meter.now ahead at (none_yet old new 0 c.args.meter.now)

pub returns-clause-changed : goal.returns-clause-changed
returns-clause-changed g c =
    let run : IsKept g.C.CellRunner.covers (book_of c.args.self.now) (each_of g.C.CellRunner.recorded c.self.inside.records.items) c.self.inside.words.items =
    subst (λ (s : Sheet). IsKept g.C.CellRunner.covers (book_of s) (each_of g.C.CellRunner.recorded c.self.inside.records.items) c.self.inside.words.items) c.self.view_is (c.self.invariant).0 in
    let old : Book = book_of c.args.self.now in
    let new : Book = book_of (sheet c.args.self.now.cells (g.C.CellRunner.given c.args.world.now)) in
    let ahead : IsOpen old new 0 0 (world_in (g.C.CellRunner.given c.args.world.now)) =
    open_frame old new _ _ _ _ _ _ (Editing.frame_whole c.args.self.now (g.C.CellRunner.given c.args.world.now) run.run.distinct c.args.self.now.cells (records_of old) new.world (length c.args.self.now.cells) refl refl refl refl) refl in
    let at : IsAt old new 0 0 (g.C.CellRunner.change_of c.in_ok-change.change) (g.C.CellRunner.session_of c.in_ok-session.session) 0 =
    Editing.inputs_at c.args.self.now (g.C.CellRunner.given c.args.world.now) run.run.distinct (g.C.CellRunner.change_of c.in_ok-change.change) _
    (λ t. subst (λ (i : World). IsOver (g.C.CellRunner.change_of c.in_ok-change.change) t i t new.world) (ap (λ (s : Sheet). world_in s.given) c.self.view_is) (c.in_ok-change.ensures t)) c.in_ok-session.ensures in
    let step : 0 ≡ 0 + (0 - 0) = omega arith in
    if_ok_more c.swept_behind.result c.swept_behind.ensures.changed (λ s h. h new 0 0 0 ahead at (omega arith) step
    (subst (λ xs. AreChanged old new 0 0 0 (map (λ c'. change_at c'.place (g.C.CellRunner.recorded c'.record.value)) xs)) (sym c.new.ensures.items) (changed_none old new 0 0)))

pub returns-clause-fit : goal.returns-clause-fit
returns-clause-fit g c =
    if_ok_more c.swept_behind.result c.swept_behind.ensures.fit (λ s h. h
    (subst (λ xs. AreFit g.C.CellRunner.covers (length c.args.self.now.cells) (map (λ c'. fit_at c'.place (g.C.CellRunner.recorded c'.record.value) c'.word) xs)) (sym c.new.ensures.items) tt))

pub returns-clause-noted : goal.returns-clause-noted
returns-clause-noted g c =
    let run : IsKept g.C.CellRunner.covers (book_of c.args.self.now) (each_of g.C.CellRunner.recorded c.self.inside.records.items) c.self.inside.words.items =
    subst (λ (s : Sheet). IsKept g.C.CellRunner.covers (book_of s) (each_of g.C.CellRunner.recorded c.self.inside.records.items) c.self.inside.words.items) c.self.view_is (c.self.invariant).0 in
    let old : Book = book_of c.args.self.now in
    let new : Book = book_of (sheet c.args.self.now.cells (g.C.CellRunner.given c.args.world.now)) in
    let ahead : IsOpen old new 0 0 (world_in (g.C.CellRunner.given c.args.world.now)) =
    open_frame old new _ _ _ _ _ _ (Editing.frame_whole c.args.self.now (g.C.CellRunner.given c.args.world.now) run.run.distinct c.args.self.now.cells (records_of old) new.world (length c.args.self.now.cells) refl refl refl refl) refl in
    let at : IsAt old new 0 0 (g.C.CellRunner.change_of c.in_ok-change.change) (g.C.CellRunner.session_of c.in_ok-session.session) 0 =
    Editing.inputs_at c.args.self.now (g.C.CellRunner.given c.args.world.now) run.run.distinct (g.C.CellRunner.change_of c.in_ok-change.change) _
    (λ t. subst (λ (i : World). IsOver (g.C.CellRunner.change_of c.in_ok-change.change) t i t new.world) (ap (λ (s : Sheet). world_in s.given) c.self.view_is) (c.in_ok-change.ensures t)) c.in_ok-session.ensures in
    if_ok_more c.swept_behind.result c.swept_behind.ensures.noted (λ s h. h new ahead at)
