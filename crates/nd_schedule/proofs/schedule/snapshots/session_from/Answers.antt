use Rattle.std.specs.Prelude.{map}
use Rattle.nd_model.specs.Book.Book.{Book}
use Rattle.nd_schedule.specs.Schedule.Snapshot.{IsSnapshot, StandsBefore}
use Rattle.nd_schedule.proofs.schedule.Standing.{if_some}
use Rattle.nd_schedule.proofs.schedule.snapshots.session_from.Goals as goal

pub replay_between-requires-clause-run : goal.replay_between-requires-clause-run
replay_between-requires-clause-run g c =
    let b : Book = c.requires.run.0 in
    (b, c.requires.run.1, if_some (λ s. (b : Book) → IsSnapshot b c.args.snapshot.now.place (g.C.CellRunner.kept_session c.args.snapshot.now.version) (map g.C.CellRunner.change_of c.args.snapshot.now.pending.items) → StandsBefore b c.args.snapshot.now.place (g.C.CellRunner.session_of s)) _ _ c.in-Some.is c.in_ok-session.ensures b c.requires.run.2)
