use Rattle.std.proofs.Common.{◌≡◌, ◌<◌, length, ap, ◌∙◌, arith}
use Rattle.nd_model.specs.Book.Book.{Book}
use Rattle.nd_model.specs.Book.Entries.{entry_at, record_at}
use Rattle.nd_schedule.specs.Cells.Shared.{each_of}
use Rattle.nd_schedule.specs.Schedule.Sweep.{IsRun}
use Rattle.nd_schedule.proofs.schedule.Kept.{as_many}
use Rattle.nd_schedule.proofs.schedule.Standing.{holds_near, next_near}
use Rattle.nd_schedule.proofs.schedule.Sweeping.{record_there}
use Rattle.nd_schedule.proofs.schedule.snapshots.replay_between.Goals as goal

pub replay_one-requires-clause-none : goal.replay_one-requires-clause-none
replay_one-requires-clause-none g c =
    let b : Book = c.requires.run.0 in
    let run : IsRun b (each_of g.C.CellRunner.recorded c.args.records.now) = c.requires.run.1 in
    let many : length c.args.records.now ≡ length b.cells = as_many (λ r. g.C.CellRunner.recorded r.value) b c.args.records.now run.records in
    let lt : c.loop-k.k < length b.cells = omega (arith, many, c.requires.within) in
    let is : g.C.CellRunner.recorded c.deref.result.now ≡ record_at b.world (entry_at b c.loop-k.k) =
    ap g.C.CellRunner.recorded c.deref.ensures ∙ record_there (λ r. g.C.CellRunner.recorded r.value) b c.args.records.now c.index-records-k.result c.loop-k.k run.records lt c.index-records-k.is in
    (holds_near b run.distinct c.loop-k.k lt (g.C.CellRunner.recorded c.deref.result.now) (g.C.CellRunner.session_of c.loop-k.session) is (c.loop-k.invariant b run c.requires.run.2)).none

pub replay_one-requires-clause-reads : goal.replay_one-requires-clause-reads
replay_one-requires-clause-reads g c =
    let b : Book = c.requires.run.0 in
    let run : IsRun b (each_of g.C.CellRunner.recorded c.args.records.now) = c.requires.run.1 in
    let many : length c.args.records.now ≡ length b.cells = as_many (λ r. g.C.CellRunner.recorded r.value) b c.args.records.now run.records in
    let lt : c.loop-k.k < length b.cells = omega (arith, many, c.requires.within) in
    let is : g.C.CellRunner.recorded c.deref.result.now ≡ record_at b.world (entry_at b c.loop-k.k) =
    ap g.C.CellRunner.recorded c.deref.ensures ∙ record_there (λ r. g.C.CellRunner.recorded r.value) b c.args.records.now c.index-records-k.result c.loop-k.k run.records lt c.index-records-k.is in
    (b.world, (holds_near b run.distinct c.loop-k.k lt (g.C.CellRunner.recorded c.deref.result.now) (g.C.CellRunner.session_of c.loop-k.session) is (c.loop-k.invariant b run c.requires.run.2)).same)

pub loop-k-preserved : goal.loop-k-preserved
loop-k-preserved g c = λ b run stands.
    let many : length c.args.records.now ≡ length b.cells = as_many (λ r. g.C.CellRunner.recorded r.value) b c.args.records.now run.records in
    let lt : c.loop-k.k < length b.cells = omega (arith, many, c.requires.within) in
    let is : g.C.CellRunner.recorded c.deref.result.now ≡ record_at b.world (entry_at b c.loop-k.k) =
    ap g.C.CellRunner.recorded c.deref.ensures ∙ record_there (λ r. g.C.CellRunner.recorded r.value) b c.args.records.now c.index-records-k.result c.loop-k.k run.records lt c.index-records-k.is in
    next_near b run.distinct c.loop-k.k lt (g.C.CellRunner.recorded c.deref.result.now) (g.C.CellRunner.session_of c.loop-k.session) is (c.loop-k.invariant b run stands) (g.C.CellRunner.session_of c.replay_one.new.session) c.in_ok-replay_one.ensures
