use Rattle.std.proofs.Common.{subst}
use Rattle.nd_schedule.specs.Schedule.Snapshot.{StandsBefore}
use Rattle.nd_schedule.proofs.schedule.Standing.{if_ok_some_more}
use Rattle.nd_schedule.proofs.schedule.snapshots.take_end.Goals as goal

pub returns-clause-session : goal.returns-clause-session
returns-clause-session g c = if_ok_some_more c.thawed.result c.thawed.ensures (λ h stands b all. subst (λ p. StandsBefore b p (g.C.CellRunner.session_of h)) c.in-Some.ensures.place (stands b (c.in-Some.ensures.taken b all)))
