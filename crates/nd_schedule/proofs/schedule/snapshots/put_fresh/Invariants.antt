use Rattle.std.proofs.Common.{map}
use Rattle.std.specs.List.{All}
use Rattle.nd_model.specs.Book.Book.{Book}
use Rattle.nd_schedule.specs.Schedule.Snapshot.{IsBehind, IsSnapshot}
use Rattle.nd_schedule.proofs.schedule.snapshots.put_fresh.Given as goal

abbrev pub invariant-loop-made : goal.invariant-loop-made
invariant-loop-made g l = (old new : Book) → IsBehind old new l.front → All (λ s. IsSnapshot old s.place (g.C.CellRunner.kept_session s.version) (map g.C.CellRunner.change_of s.pending.items)) l.fn.fresh.items → All (λ s. IsSnapshot new s.place (g.C.CellRunner.kept_session s.version) (map g.C.CellRunner.change_of s.pending.items)) l.fn.snapshots.items → All (λ s. IsSnapshot new s.place (g.C.CellRunner.kept_session s.version) (map g.C.CellRunner.change_of s.pending.items)) l.snapshots.items
