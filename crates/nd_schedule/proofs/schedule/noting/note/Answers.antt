use Rattle.nd_schedule.specs.Schedule.Snapshot.{IsNoted}
use Rattle.nd_schedule.proofs.schedule.Standing.{All-pushed}
use Rattle.nd_schedule.proofs.schedule.noting.note.Goals as goal

pub returns-clause-noted : goal.returns-clause-noted
returns-clause-noted g c = λ old new noted stands all.
    All-pushed (λ n. IsNoted g.C.CellRunner.change_of g.C.CellRunner.kept_session old new n.place n.now n.memo) c.push-room.result _ _ _ c.push-room.ensures.items all (c.in-Some.ensures.memo old new c.args.place c.args.now noted stands)
