use Rattle.std.proofs.Common.{ℕ}
use Rattle.nd_model.specs.Book.Book.{Book}
use Rattle.nd_change.specs.Steps.{IsWordOfChange}
use Rattle.nd_schedule.specs.Cells.Shared.{each_of}
use Rattle.nd_schedule.specs.Schedule.Sweep.{IsAt, IsPlace, IsRun}
use Rattle.nd_schedule.proofs.schedule.merging.leave_between.Given as goal

abbrev pub invariant-loop-k : goal.invariant-loop-k
invariant-loop-k g l = record {
  at : (old new : Book) (j : ℕ) → IsRun old (each_of g.C.CellRunner.recorded l.records) → IsPlace old new l.i j
      → IsAt old new l.i j (g.C.CellRunner.change_of l.fn.state.change) (g.C.CellRunner.session_of l.fn.state.session) l.fn.state.since
      → IsAt old new l.k j (g.C.CellRunner.change_of l.state.change) (g.C.CellRunner.session_of l.state.session) l.state.since;
  covered : IsWordOfChange g.C.CellRunner.covers l.state.word (g.C.CellRunner.change_of l.state.change);
}
