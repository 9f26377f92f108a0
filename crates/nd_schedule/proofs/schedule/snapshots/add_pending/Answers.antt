use Rattle.std.proofs.Common.{map}
use Rattle.nd_schedule.proofs.schedule.Standing.{noted_on, still_on}
use Rattle.nd_schedule.proofs.schedule.snapshots.add_pending.Goals as goal

pub returns-then-is_empty : goal.returns-then-is_empty
returns-then-is_empty g c = λ stays old new before distinct noted one.
    still_on (g.C.CellRunner.change_of c.args.change) old new c.args.snapshot.now.place c.args.now (g.C.CellRunner.kept_session c.args.snapshot.now.version) (map g.C.CellRunner.change_of c.args.snapshot.now.pending.items) (c.is_empty.ensures c.if-is_empty.true) before distinct noted one

pub returns-in-Ok : goal.returns-in-Ok
returns-in-Ok g c = λ stays old new before d noted one.
    noted_on g.C.CellRunner.change_of old new c.args.snapshot.now.place c.args.now (g.C.CellRunner.kept_session c.args.snapshot.now.version) c.args.snapshot.now.pending.items _ c.args.change d noted c.in-Ok.ensures.items one
