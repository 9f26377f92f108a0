use Rattle.std.proofs.Common.{◌≡◌}
use Rattle.nd_model.specs.Book.Entries.{session_before}
use Rattle.nd_model.specs.Book.Notebook.{book_of}
use Rattle.nd_schedule.specs.Schedule.Snapshot.{names_in}
use Rattle.nd_schedule.proofs.schedule.notebook.Schedule.names_before.Given as goal

abbrev pub invariant-loop-k : goal.invariant-loop-k
invariant-loop-k g l = names_in (session_before (book_of l.self) l.k).names ≡ g.C.CellRunner.order_of l.order
