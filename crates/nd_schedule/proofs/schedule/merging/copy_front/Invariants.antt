use Rattle.nd_model.specs.Book.Book.{Book}
use Rattle.nd_schedule.specs.Cells.Shared.{each_of}
use Rattle.nd_schedule.specs.Schedule.Merge.{AreMerged, IsFront}
use Rattle.nd_schedule.specs.Schedule.Sweep.{IsRun}
use Rattle.nd_schedule.proofs.schedule.merging.copy_front.Given as goal

abbrev pub invariant-loop-k : goal.invariant-loop-k
invariant-loop-k g l = (old new : Book) → IsRun old (each_of g.C.CellRunner.recorded l.records) → IsFront old new l.count
    → AreMerged g.C.CellRunner.covers old new 0 (each_of g.C.CellRunner.recorded l.fn.merged.records.items) l.fn.merged.words.items l.fn.merged.ran.items
    → AreMerged g.C.CellRunner.covers old new l.k (each_of g.C.CellRunner.recorded l.merged.records.items) l.merged.words.items l.merged.ran.items
