use Rattle.std.proofs.Common.{◌≡◌, ◌+◌, ◌-◌, length, map, refl, sym, ap, subst, arith}
use Rattle.std.proofs.lemmas.Grind.{common_steps}
use Rattle.std.specs.Prelude.{remove}
use Rattle.nd_model.specs.Book.Book.{Book}
use Rattle.nd_model.specs.Book.Entries.{records_of}
use Rattle.nd_model.specs.Book.Notebook.{Sheet, book_of, world_in}
use Rattle.nd_schedule.specs.Cells.Source.{sheet}
use Rattle.nd_schedule.specs.Cells.Shared.{each_of}
use Rattle.nd_schedule.specs.Schedule.Sweep.{AreChanged, AreFit, IsAt, IsKept, IsOpen, change_at, fit_at}
use Rattle.nd_schedule.proofs.schedule.Sweeping.{changed_none, none_yet}
use Rattle.nd_schedule.proofs.schedule.Visiting.{open_frame}
use Rattle.nd_schedule.proofs.schedule.Removing
use Rattle.nd_schedule.proofs.schedule.Turning.{if_ok_more}
use Rattle.nd_schedule.proofs.schedule.notebook.Schedule.swept_without.Goals as goal

pub swept_behind-requires-clause-order : goal.swept_behind-requires-clause-order
swept_behind-requires-clause-order g c = omega (arith, c.requires.at)

pub swept_behind-requires-clause-at : goal.swept_behind-requires-clause-at
swept_behind-requires-clause-at g c =
    let run : IsKept g.C.CellRunner.covers (book_of c.args.self.now) (each_of g.C.CellRunner.recorded c.self.inside.records.items) c.self.inside.words.items =
    subst (λ (s : Sheet). IsKept g.C.CellRunner.covers (book_of s) (each_of g.C.CellRunner.recorded c.self.inside.records.items) c.self.inside.words.items) c.self.view_is (c.self.invariant).0 in
    let old : Book = book_of c.args.self.now in
    let new : Book = book_of (sheet (remove c.args.self.now.cells c.args.at) c.args.self.now.given) in
    let same : world_in (g.C.CellRunner.given c.self.inside.world) ≡ new.world = ap (λ (s : Sheet). world_in s.given) c.self.view_is in
    let ahead : IsOpen old new (c.args.at + 1) c.args.at (world_in (g.C.CellRunner.given c.self.inside.world)) =
    open_frame old new _ _ _ _ _ _ (Removing.frame_behind c.args.self.now c.args.at c.requires.at run.run.distinct c.args.self.now.cells (records_of old) new.world (length c.args.self.now.cells) refl refl refl refl) (sym same) in
    let at : IsAt old new (c.args.at + 1) c.args.at (g.C.CellRunner.change_of c.went.new.change) (g.C.CellRunner.session_of c.args.session) (c.args.at + 1) =
    Removing.went_at c.args.self.now c.args.at c.requires.at run.run.distinct (g.C.CellRunner.change_of c.no_change-change.result) _ (g.C.CellRunner.recorded c.record_at.result.now) _ _ c.no_change-change.ensures c.record_at.ensures.recorded c.requires.session c.in_ok-went.ensures refl in
    (new, c.args.at, ahead, at)

pub swept_behind-requires-clause-covered : goal.swept_behind-requires-clause-covered
swept_behind-requires-clause-covered g c = c.change_word-word.ensures

pub returns-clause-counts : goal.returns-clause-counts
returns-clause-counts g c =
    let run : IsKept g.C.CellRunner.covers (book_of c.args.self.now) (each_of g.C.CellRunner.recorded c.self.inside.records.items) c.self.inside.words.items =
    subst (λ (s : Sheet). IsKept g.C.CellRunner.covers (book_of s) (each_of g.C.CellRunner.recorded c.self.inside.records.items) c.self.inside.words.items) c.self.view_is (c.self.invariant).0 in
    let old : Book = book_of c.args.self.now in
    let new : Book = book_of (sheet (remove c.args.self.now.cells c.args.at) c.args.self.now.given) in
    let same : world_in (g.C.CellRunner.given c.self.inside.world) ≡ new.world = ap (λ (s : Sheet). world_in s.given) c.self.view_is in
    let ahead : IsOpen old new (c.args.at + 1) c.args.at (world_in (g.C.CellRunner.given c.self.inside.world)) =
    open_frame old new _ _ _ _ _ _ (Removing.frame_behind c.args.self.now c.args.at c.requires.at run.run.distinct c.args.self.now.cells (records_of old) new.world (length c.args.self.now.cells) refl refl refl refl) (sym same) in
    let at : IsAt old new (c.args.at + 1) c.args.at (g.C.CellRunner.change_of c.went.new.change) (g.C.CellRunner.session_of c.args.session) (c.args.at + 1) =
    Removing.went_at c.args.self.now c.args.at c.requires.at run.run.distinct (g.C.CellRunner.change_of c.no_change-change.result) _ (g.C.CellRunner.recorded c.record_at.result.now) _ _ c.no_change-change.ensures c.record_at.ensures.recorded c.requires.session c.in_ok-went.ensures refl in
    c.swept_behind.ensures.counts new c.args.at c.args.meter.now ahead at (none_yet old new c.args.at c.args.meter.now)

pub returns-clause-changed : goal.returns-clause-changed
returns-clause-changed g c =
    let run : IsKept g.C.CellRunner.covers (book_of c.args.self.now) (each_of g.C.CellRunner.recorded c.self.inside.records.items) c.self.inside.words.items =
    subst (λ (s : Sheet). IsKept g.C.CellRunner.covers (book_of s) (each_of g.C.CellRunner.recorded c.self.inside.records.items) c.self.inside.words.items) c.self.view_is (c.self.invariant).0 in
    let old : Book = book_of c.args.self.now in
    let new : Book = book_of (sheet (remove c.args.self.now.cells c.args.at) c.args.self.now.given) in
    let same : world_in (g.C.CellRunner.given c.self.inside.world) ≡ new.world = ap (λ (s : Sheet). world_in s.given) c.self.view_is in
    let ahead : IsOpen old new (c.args.at + 1) c.args.at (world_in (g.C.CellRunner.given c.self.inside.world)) =
    open_frame old new _ _ _ _ _ _ (Removing.frame_behind c.args.self.now c.args.at c.requires.at run.run.distinct c.args.self.now.cells (records_of old) new.world (length c.args.self.now.cells) refl refl refl refl) (sym same) in
    let at : IsAt old new (c.args.at + 1) c.args.at (g.C.CellRunner.change_of c.went.new.change) (g.C.CellRunner.session_of c.args.session) (c.args.at + 1) =
    Removing.went_at c.args.self.now c.args.at c.requires.at run.run.distinct (g.C.CellRunner.change_of c.no_change-change.result) _ (g.C.CellRunner.recorded c.record_at.result.now) _ _ c.no_change-change.ensures c.record_at.ensures.recorded c.requires.session c.in_ok-went.ensures refl in
    let step : c.args.at ≡ c.args.at + (c.args.at + 1 - (c.args.at + 1)) = omega arith in
    if_ok_more c.swept_behind.result c.swept_behind.ensures.changed (λ s h. h new c.args.at (c.args.at + 1) c.args.at ahead at (omega arith) step
    (subst (λ xs. AreChanged old new (c.args.at + 1) c.args.at (c.args.at + 1) (map (λ c'. change_at c'.place (g.C.CellRunner.recorded c'.record.value)) xs)) (sym c.new.ensures.items) (changed_none old new (c.args.at + 1) c.args.at)))

pub returns-clause-fit : goal.returns-clause-fit
returns-clause-fit g c =
    if_ok_more c.swept_behind.result c.swept_behind.ensures.fit (λ s h. h
    (subst (λ xs. AreFit g.C.CellRunner.covers (length c.args.self.now.cells) (map (λ c'. fit_at c'.place (g.C.CellRunner.recorded c'.record.value) c'.word) xs)) (sym c.new.ensures.items) tt))

pub returns-clause-noted : goal.returns-clause-noted
returns-clause-noted g c =
    let run : IsKept g.C.CellRunner.covers (book_of c.args.self.now) (each_of g.C.CellRunner.recorded c.self.inside.records.items) c.self.inside.words.items =
    subst (λ (s : Sheet). IsKept g.C.CellRunner.covers (book_of s) (each_of g.C.CellRunner.recorded c.self.inside.records.items) c.self.inside.words.items) c.self.view_is (c.self.invariant).0 in
    let old : Book = book_of c.args.self.now in
    let new : Book = book_of (sheet (remove c.args.self.now.cells c.args.at) c.args.self.now.given) in
    let same : world_in (g.C.CellRunner.given c.self.inside.world) ≡ new.world = ap (λ (s : Sheet). world_in s.given) c.self.view_is in
    let ahead : IsOpen old new (c.args.at + 1) c.args.at (world_in (g.C.CellRunner.given c.self.inside.world)) =
    open_frame old new _ _ _ _ _ _ (Removing.frame_behind c.args.self.now c.args.at c.requires.at run.run.distinct c.args.self.now.cells (records_of old) new.world (length c.args.self.now.cells) refl refl refl refl) (sym same) in
    let at : IsAt old new (c.args.at + 1) c.args.at (g.C.CellRunner.change_of c.went.new.change) (g.C.CellRunner.session_of c.args.session) (c.args.at + 1) =
    Removing.went_at c.args.self.now c.args.at c.requires.at run.run.distinct (g.C.CellRunner.change_of c.no_change-change.result) _ (g.C.CellRunner.recorded c.record_at.result.now) _ _ c.no_change-change.ensures c.record_at.ensures.recorded c.requires.session c.in_ok-went.ensures refl in
    if_ok_more c.swept_behind.result c.swept_behind.ensures.noted (λ s h. h new ahead at)

pub overflow_add-at : goal.overflow_add-at
overflow_add-at g c = grind (arith, common_steps)

pub overflow_add-state : goal.overflow_add-state
overflow_add-state g c = grind (arith, common_steps)

pub returns-in_err-went-clause-counts : goal.returns-in_err-went-clause-counts
returns-in_err-went-clause-counts g c = grind (arith, common_steps)
