use Rattle.std.proofs.Common.{◌≤◌, map, sym, ap, subst, ◌∙◌}
use Rattle.std.proofs.lemmas.List.{get_or-map}
use Rattle.nd_model.specs.Book.Book.{Book}
use Rattle.nd_schedule.specs.Cells.Shared.{each_of}
use Rattle.nd_schedule.specs.Schedule.Snapshot.{IsSnapshot, StandsBefore}
use Rattle.nd_schedule.specs.Schedule.Sweep.{IsRun}
use Rattle.nd_schedule.proofs.schedule.Standing.{if_some, one_of, taken}
use Rattle.nd_schedule.proofs.schedule.sweep.nearer.Goals as goal

pub session_from-requires-clause-order : goal.session_from-requires-clause-order
session_from-requires-clause-order g c =
    subst (λ m. m ≤ c.args.i) (get_or-map (λ s. s.place) c.args.snapshots.now c.in-Some.k c.index-snapshots-k.result 0 c.in-Some.ensures.within ∙ ap (λ s. s.place) (sym c.index-snapshots-k.is)) c.in-Some.ensures.up_to

pub session_from-requires-clause-run : goal.session_from-requires-clause-run
session_from-requires-clause-run g c =
    let b : Book = c.requires.run.0 in
    (b, c.requires.run.1, one_of (λ s. IsSnapshot b s.place (g.C.CellRunner.kept_session s.version) (map g.C.CellRunner.change_of s.pending.items)) c.args.snapshots.now c.in-Some.k c.index-snapshots-k.result (c.requires.kept b c.requires.run.1) c.in-Some.ensures.within c.index-snapshots-k.is)

pub returns : goal.returns
returns g c = λ old new j run place at.
    let kept = one_of (λ s. IsSnapshot old s.place (g.C.CellRunner.kept_session s.version) (map g.C.CellRunner.change_of s.pending.items)) c.args.snapshots.now c.in-Some.k c.index-snapshots-k.result (c.requires.kept old run) c.in-Some.ensures.within c.index-snapshots-k.is in
    let stands : StandsBefore old c.args.i (g.C.CellRunner.session_of c.in-Some-2.session) =
    if_some (λ s. (b : Book) → IsRun b (each_of g.C.CellRunner.recorded c.args.records.now) → IsSnapshot b c.index-snapshots-k.result.place (g.C.CellRunner.kept_session c.index-snapshots-k.result.version) (map g.C.CellRunner.change_of c.index-snapshots-k.result.pending.items) → StandsBefore b c.args.i (g.C.CellRunner.session_of s)) _ _ c.in-Some-2.is c.in_ok-session.ensures old run kept in
    let put = c.if-not-branch.false in
    taken old new c.args.i j _ _ _ place at stands (c.in_ok-patch.ensures.over put) (c.in_ok-patch.ensures.once put)
