use Rattle.std.proofs.Common.{ap, map}
use Rattle.nd_schedule.proofs.schedule.Standing.{change_noted, session_noted}
use Rattle.nd_schedule.proofs.schedule.snapshots.bring_along.Goals as goal

pub returns-in-Change : goal.returns-in-Change
returns-in-Change g c = λ stays old new before distinct noted one.
    c.put_behind.ensures stays old new before distinct (change_noted g.C.CellRunner.change_of g.C.CellRunner.kept_session old new c.args.snapshot.now.place c.args.now c.args.memo c.in-Change.change noted c.in-Change.is) one

pub returns-in-Session : goal.returns-in-Session
returns-in-Session g c = λ stays old new before distinct noted one.
    session_noted g.C.CellRunner.change_of g.C.CellRunner.kept_session old new c.args.snapshot.now.place c.args.now c.args.memo c.in-Session.made _ noted c.in-Session.is (ap (map g.C.CellRunner.change_of) c.clear.ensures.items)
