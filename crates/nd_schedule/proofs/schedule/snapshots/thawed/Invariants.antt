use Rattle.std.proofs.Common.{◌≡◌, drop, map}
use Rattle.nd_model.specs.Book.Sessions.{IsOnce}
use Rattle.nd_model.specs.Book.Book.{Book}
use Rattle.nd_model.specs.Book.Entries.{session_before}
use Rattle.nd_schedule.specs.Schedule.Snapshot.{IsSnapshot, Leads}
use Rattle.nd_schedule.proofs.schedule.snapshots.thawed.Given as goal

abbrev pub invariant-loop-change : goal.invariant-loop-change
invariant-loop-change g l = record {
  items : l.change-items ≡ l.snapshot.pending.items;
  leads : (b : Book) → IsSnapshot b l.snapshot.place (g.C.CellRunner.kept_session l.snapshot.version) (map g.C.CellRunner.change_of l.snapshot.pending.items) → Leads (map g.C.CellRunner.change_of (drop l.change-index l.change-items)) (g.C.CellRunner.session_of l.session) (session_before b l.snapshot.place);
  once : (b : Book) → IsSnapshot b l.snapshot.place (g.C.CellRunner.kept_session l.snapshot.version) (map g.C.CellRunner.change_of l.snapshot.pending.items) → IsOnce (g.C.CellRunner.session_of l.session).names;
}
