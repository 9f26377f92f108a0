use Rattle.nd_model.specs.Book.Book.{Book}
use Rattle.nd_schedule.specs.Cells.Shared.{each_of}
use Rattle.nd_schedule.specs.Schedule.Snapshot.{StandsBefore}
use Rattle.nd_schedule.specs.Schedule.Sweep.{IsRun}
use Rattle.nd_schedule.proofs.schedule.snapshots.replay_between.Given as goal

abbrev pub invariant-loop-k : goal.invariant-loop-k
invariant-loop-k g l = (b : Book) → IsRun b (each_of g.C.CellRunner.recorded l.records) → StandsBefore b l.from (g.C.CellRunner.session_of l.fn.session) → StandsBefore b l.k (g.C.CellRunner.session_of l.session)
