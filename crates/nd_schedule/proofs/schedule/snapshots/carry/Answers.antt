use Rattle.std.proofs.Common.{map}
use Rattle.nd_schedule.specs.Schedule.Snapshot.{IsSnapshot}
use Rattle.nd_schedule.proofs.schedule.Carrying.{kept_front}
use Rattle.nd_schedule.proofs.schedule.Standing.{kept_in_front}
use Rattle.nd_schedule.proofs.schedule.snapshots.carry.Goals as goal

pub returns : goal.returns
returns g c = λ old new behind noted made olds.
    c.put_fresh.ensures old new behind made
    (c.carry_noted.ensures old new behind.before behind.distinct noted
    (kept_front (λ s. s.place) (λ s. IsSnapshot old s.place (g.C.CellRunner.kept_session s.version) (map g.C.CellRunner.change_of s.pending.items)) (λ s. IsSnapshot new s.place (g.C.CellRunner.kept_session s.version) (map g.C.CellRunner.change_of s.pending.items)) c.count_front-count.result c.args.front c.args.snapshots.now.items c.deref.result.now c.deref.ensures.value c.count_front-count.ensures.within c.count_front-count.ensures.front
    (λ s le one. kept_in_front old new c.args.front s.place _ _ behind le one) olds)
    olds)
