use Rattle.std.proofs.Common.{◌≡◌, ℕ, ◌+◌, ◌≤◌, length, ap, subst, ◌∙◌, arith}
use Rattle.std.specs.Prelude.{insert}
use Rattle.nd_model.specs.Book.Notebook.{Sheet, book_of, world_in}
use Rattle.nd_schedule.specs.Cells.Source.{sheet, cell_of}
use Rattle.nd_schedule.specs.Cells.Shared.{each_of}
use Rattle.nd_schedule.specs.Schedule.Sweep.{IsKept}
use Rattle.nd_schedule.proofs.schedule.Sweeping.{counts_stale}
use Rattle.nd_schedule.proofs.schedule.Inserting
use Rattle.nd_schedule.proofs.schedule.Turning.{if_ok_more}
use Rattle.nd_schedule.proofs.schedule.Visiting.{on_ok}
use Rattle.nd_schedule.proofs.schedule.notebook.Schedule.run_end.Goals as goal

pub run_cell-requires-clause-none : goal.run_cell-requires-clause-none
run_cell-requires-clause-none g c =
    let run : IsKept g.C.CellRunner.covers (book_of c.args.self.now) (each_of g.C.CellRunner.recorded c.self.inside.records.items) c.self.inside.words.items =
    subst (λ (s : Sheet). IsKept g.C.CellRunner.covers (book_of s) (each_of g.C.CellRunner.recorded c.self.inside.records.items) c.self.inside.words.items) c.self.view_is (c.self.invariant).0 in
    let at : ℕ = length c.args.self.now.cells in
    let le : at ≤ length c.args.self.now.cells = omega arith in
    Inserting.none_here c.args.self.now at (cell_of c.args.source.now) le run.run.distinct c.requires.label (g.C.CellRunner.session_of c.args.session.now) c.requires.session

pub returns-clause-counts : goal.returns-clause-counts
returns-clause-counts g c =
    let run : IsKept g.C.CellRunner.covers (book_of c.args.self.now) (each_of g.C.CellRunner.recorded c.self.inside.records.items) c.self.inside.words.items =
    subst (λ (s : Sheet). IsKept g.C.CellRunner.covers (book_of s) (each_of g.C.CellRunner.recorded c.self.inside.records.items) c.self.inside.words.items) c.self.view_is (c.self.invariant).0 in
    let at : ℕ = length c.args.self.now.cells in
    let le : at ≤ length c.args.self.now.cells = omega arith in
    counts_stale (book_of c.args.self.now) (book_of (sheet (insert c.args.self.now.cells at (cell_of c.args.source.now)) c.args.self.now.given)) (at + 1) c.args.meter.now c.run_cell.new.meter (Inserting.first_counts c.args.self.now at (cell_of c.args.source.now) le run.run.distinct c.requires.label c.args.meter.now c.run_cell.new.meter c.run_cell.ensures.counted)

pub returns-clause-made : goal.returns-clause-made
returns-clause-made g c =
    let run : IsKept g.C.CellRunner.covers (book_of c.args.self.now) (each_of g.C.CellRunner.recorded c.self.inside.records.items) c.self.inside.words.items =
    subst (λ (s : Sheet). IsKept g.C.CellRunner.covers (book_of s) (each_of g.C.CellRunner.recorded c.self.inside.records.items) c.self.inside.words.items) c.self.view_is (c.self.invariant).0 in
    let at : ℕ = length c.args.self.now.cells in
    let le : at ≤ length c.args.self.now.cells = omega arith in
    let same : world_in (g.C.CellRunner.given c.self.inside.world) ≡ world_in c.args.self.now.given = ap (λ (s : Sheet). world_in s.given) c.self.view_is in
    if_ok_more c.run_cell.result c.run_cell.ensures.made (λ n made. made ∙ Inserting.run_record c.args.self.now at (cell_of c.args.source.now) le run.run.distinct c.requires.label (g.C.CellRunner.session_of c.args.session.now) c.requires.session _ same)

pub returns-clause-worded : goal.returns-clause-worded
returns-clause-worded g c = c.run_cell.ensures.worded

pub returns-clause-session : goal.returns-clause-session
returns-clause-session g c =
    let run : IsKept g.C.CellRunner.covers (book_of c.args.self.now) (each_of g.C.CellRunner.recorded c.self.inside.records.items) c.self.inside.words.items =
    subst (λ (s : Sheet). IsKept g.C.CellRunner.covers (book_of s) (each_of g.C.CellRunner.recorded c.self.inside.records.items) c.self.inside.words.items) c.self.view_is (c.self.invariant).0 in
    let at : ℕ = length c.args.self.now.cells in
    let le : at ≤ length c.args.self.now.cells = omega arith in
    let same : world_in (g.C.CellRunner.given c.self.inside.world) ≡ world_in c.args.self.now.given = ap (λ (s : Sheet). world_in s.given) c.self.view_is in
    on_ok c.run_cell.result c.run_cell.ensures.after (λ after. Inserting.stands_behind c.args.self.now at (cell_of c.args.source.now) le run.run.distinct c.requires.label (g.C.CellRunner.session_of c.args.session.now) c.requires.session _ _ same after)
