use Rattle.std.proofs.Common.{◌-◌, length, map, arith}
use Rattle.nd_model.specs.Book.Book.{Book}
use Rattle.nd_schedule.specs.Schedule.Snapshot.{IsSnapshot, StandsBefore}
use Rattle.nd_schedule.proofs.schedule.Standing.{at_first, if_some, one_of}
use Rattle.nd_schedule.proofs.schedule.snapshots.nearest.Goals as goal

pub returns-in-Some-clause-session : goal.returns-in-Some-clause-session
returns-in-Some-clause-session g c = λ b all.
    if_some (λ h. (b : Book) → IsSnapshot b c.index-snapshots-snapshots.result.place (g.C.CellRunner.kept_session c.index-snapshots-snapshots.result.version) (map g.C.CellRunner.change_of c.index-snapshots-snapshots.result.pending.items) → StandsBefore b c.index-snapshots-snapshots.result.place (g.C.CellRunner.session_of h))
    c.in_ok-session.field-0 _ c.in-Some.is c.in_ok-session.ensures b
    (one_of (λ s. IsSnapshot b s.place (g.C.CellRunner.kept_session s.version) (map g.C.CellRunner.change_of s.pending.items)) c.args.snapshots.now (length c.args.snapshots.now - 1 - c.loop-back.back) c.index-snapshots-snapshots.result all (omega arith) c.index-snapshots-snapshots.is)

pub returns-clause-session : goal.returns-clause-session
returns-clause-session g c = λ b all. at_first b (g.C.CellRunner.session_of c.in_ok-session-2.session) c.in_ok-session-2.ensures
