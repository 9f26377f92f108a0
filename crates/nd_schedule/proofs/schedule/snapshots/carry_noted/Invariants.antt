use Rattle.std.proofs.Common.{◌≡◌, ◌≤◌, length, map, take}
use Rattle.std.specs.List.{All}
use Rattle.nd_model.specs.Book.Renaming.{AreDistinct}
use Rattle.nd_model.specs.Book.Book.{Book, labels_of}
use Rattle.nd_schedule.specs.Schedule.Snapshot.{IsNoted, IsSnapshot}
use Rattle.nd_schedule.proofs.schedule.Carrying.{Front, SameFrom}
use Rattle.nd_schedule.proofs.schedule.snapshots.carry_noted.Given as goal

abbrev pub invariant-loop-note : goal.invariant-loop-note
invariant-loop-note g l = record {
  order : l.stay ≤ l.next;
  within : l.next ≤ length l.snapshots.items;
  many : length l.snapshots.items ≡ length l.fn.snapshots.items;
  same : SameFrom l.next l.snapshots.items l.fn.snapshots.items;
  stay : (old new : Book) → AreDistinct (labels_of old.cells) → AreDistinct (labels_of new.cells) → All (λ n. IsNoted g.C.CellRunner.change_of g.C.CellRunner.kept_session old new n.place n.now n.memo) l.fn.noted.items → All (λ s. IsSnapshot new s.place (g.C.CellRunner.kept_session s.version) (map g.C.CellRunner.change_of s.pending.items)) (take l.count l.fn.snapshots.items) → All (λ s. IsSnapshot old s.place (g.C.CellRunner.kept_session s.version) (map g.C.CellRunner.change_of s.pending.items)) l.fn.snapshots.items → Front (λ s. IsSnapshot new s.place (g.C.CellRunner.kept_session s.version) (map g.C.CellRunner.change_of s.pending.items)) l.stay l.snapshots.items;
}
