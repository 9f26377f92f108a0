use Rattle.std.proofs.Common.{subst}
use Rattle.nd_model.specs.Book.Notebook.{Sheet, book_of}
use Rattle.nd_schedule.specs.Cells.Shared.{each_of}
use Rattle.nd_schedule.specs.Schedule.Sweep.{IsKept}
use Rattle.nd_schedule.proofs.schedule.Turning.{begins}
use Rattle.nd_schedule.proofs.schedule.notebook.Schedule.begin.Goals as goal

pub returns-clause-at : goal.returns-clause-at
returns-clause-at g c = λ new front same.
    let run : IsKept g.C.CellRunner.covers (book_of c.args.self.now) (each_of g.C.CellRunner.recorded c.self.inside.records.items) c.self.inside.words.items =
    subst (λ (s : Sheet). IsKept g.C.CellRunner.covers (book_of s) (each_of g.C.CellRunner.recorded c.self.inside.records.items) c.self.inside.words.items) c.self.view_is (c.self.invariant).0 in
    begins (book_of c.args.self.now) new c.args.at (g.C.CellRunner.change_of c.no_change-change.result) (g.C.CellRunner.session_of c.args.session) run.run.distinct c.requires.at c.no_change-change.ensures front same c.requires.session
