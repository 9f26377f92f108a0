use Rattle.std.proofs.Common.{length, map}
use Rattle.std.specs.List.{All}
use Rattle.nd_model.specs.Book.Book.{Book}
use Rattle.nd_schedule.specs.Schedule.Snapshot.{IsSnapshot}
use Rattle.nd_schedule.proofs.schedule.snapshots.thin.Given as goal

abbrev pub invariant-loop-snapshots : goal.invariant-loop-snapshots
invariant-loop-snapshots g l = (b : Book) → All (λ s. IsSnapshot b s.place (g.C.CellRunner.kept_session s.version) (map g.C.CellRunner.change_of s.pending.items)) l.fn.snapshots.items → All (λ s. IsSnapshot b s.place (g.C.CellRunner.kept_session s.version) (map g.C.CellRunner.change_of s.pending.items)) l.snapshots.items

abbrev pub decreases-loop-snapshots : goal.decreases-loop-snapshots
decreases-loop-snapshots g l = length l.snapshots.items
