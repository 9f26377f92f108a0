use Rattle.std.proofs.Common.{length, sym, subst}
use Rattle.nd_schedule.specs.Schedule.Snapshot.{StandsBefore}
use Rattle.nd_schedule.proofs.schedule.snapshots.keep_end.Goals as goal

pub returns : goal.returns
returns g c = λ b many stands all. c.thin.ensures b (c.keep_at.ensures.snapshots b many (subst (StandsBefore b (length c.args.records.now)) (sym c.settle-unsettled.ensures) stands) all)
