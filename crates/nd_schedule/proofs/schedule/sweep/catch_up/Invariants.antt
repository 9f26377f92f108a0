use Rattle.std.proofs.Common.{ℕ}
use Rattle.nd_model.specs.Book.Book.{Book}
use Rattle.nd_schedule.specs.Cells.Shared.{each_of}
use Rattle.nd_schedule.specs.Schedule.Sweep.{IsAtHand, IsPlace, IsRun}
use Rattle.nd_schedule.proofs.schedule.sweep.catch_up.Given as goal

abbrev pub invariant-loop-k : goal.invariant-loop-k
invariant-loop-k g l = (old new : Book) (j : ℕ) → IsRun old (each_of g.C.CellRunner.recorded l.records) → IsPlace old new l.to j → IsAtHand old new l.to j (g.C.CellRunner.session_of l.fn.session) l.since
    → IsAtHand old new l.to j (g.C.CellRunner.session_of l.session) l.k
