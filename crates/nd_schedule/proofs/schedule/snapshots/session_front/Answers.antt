use Rattle.std.proofs.Common.{◌≡◌, ◌≤◌, length, sym, subst, arith}
use Rattle.std.proofs.lemmas.Grind.{common_steps}
use Rattle.nd_schedule.specs.Schedule.Snapshot.{StandsBefore}
use Rattle.nd_schedule.proofs.schedule.Kept.{as_many}
use Rattle.nd_schedule.proofs.schedule.snapshots.session_front.Goals as goal

pub replay_between-requires-clause-run : goal.replay_between-requires-clause-run
replay_between-requires-clause-run g c =
    let b = c.requires.run.0 in
    let all = c.requires.run.2 in
    let stands : StandsBefore b c.in_ok-from.from (g.C.CellRunner.session_of c.keep_at.new.session) = subst (StandsBefore b c.in_ok-from.from) (sym c.keep_at.ensures.same) (c.in_ok-from.ensures.session b all) in
    (b, c.requires.run.1, stands)

pub returns-in_err-replay_between-clause-fresh : goal.returns-in_err-replay_between-clause-fresh
returns-in_err-replay_between-clause-fresh g c = λ b run all mine.
    let many : length c.args.records.now ≡ length b.cells = as_many (λ r. g.C.CellRunner.recorded r.value) b c.args.records.now run.records in
    let le : c.in_ok-from.from ≤ length b.cells = omega (arith, many, c.in_ok-from.ensures.place, c.requires.within) in
    let kept = c.keep_at.ensures.snapshots b le (c.in_ok-from.ensures.session b all) mine in
    kept

pub returns-in_err-replay_between-2-clause-fresh : goal.returns-in_err-replay_between-2-clause-fresh
returns-in_err-replay_between-2-clause-fresh g c = λ b run all mine.
    let many : length c.args.records.now ≡ length b.cells = as_many (λ r. g.C.CellRunner.recorded r.value) b c.args.records.now run.records in
    let le : c.in_ok-from.from ≤ length b.cells = omega (arith, many, c.in_ok-from.ensures.place, c.requires.within) in
    let kept = c.keep_at.ensures.snapshots b le (c.in_ok-from.ensures.session b all) mine in
    let stands : StandsBefore b c.in_ok-from.from (g.C.CellRunner.session_of c.keep_at.new.session) = subst (StandsBefore b c.in_ok-from.from) (sym c.keep_at.ensures.same) (c.in_ok-from.ensures.session b all) in
    let stop : c.stop_before-stop.result ≤ length b.cells = omega (arith, many, c.stop_before-stop.ensures.within, c.requires.within) in
    let on : StandsBefore b c.stop_before-stop.result (g.C.CellRunner.session_of c.replay_between.new.session) = c.in_ok-replay_between.ensures b run stands in
    c.keep_at-2.ensures.snapshots b stop on kept

pub returns-clause-session : goal.returns-clause-session
returns-clause-session g c = λ b run all.
    let stands : StandsBefore b c.in_ok-from.from (g.C.CellRunner.session_of c.keep_at.new.session) = subst (StandsBefore b c.in_ok-from.from) (sym c.keep_at.ensures.same) (c.in_ok-from.ensures.session b all) in
    let on : StandsBefore b c.stop_before-stop.result (g.C.CellRunner.session_of c.replay_between.new.session) = c.in_ok-replay_between.ensures b run stands in
    c.in_ok-replay_between-2.ensures b run (subst (StandsBefore b c.stop_before-stop.result) (sym c.keep_at-2.ensures.same) on)

pub returns-clause-fresh : goal.returns-clause-fresh
returns-clause-fresh g c = λ b run all mine.
    let many : length c.args.records.now ≡ length b.cells = as_many (λ r. g.C.CellRunner.recorded r.value) b c.args.records.now run.records in
    let le : c.in_ok-from.from ≤ length b.cells = omega (arith, many, c.in_ok-from.ensures.place, c.requires.within) in
    let kept = c.keep_at.ensures.snapshots b le (c.in_ok-from.ensures.session b all) mine in
    let stands : StandsBefore b c.in_ok-from.from (g.C.CellRunner.session_of c.keep_at.new.session) = subst (StandsBefore b c.in_ok-from.from) (sym c.keep_at.ensures.same) (c.in_ok-from.ensures.session b all) in
    let stop : c.stop_before-stop.result ≤ length b.cells = omega (arith, many, c.stop_before-stop.ensures.within, c.requires.within) in
    let on : StandsBefore b c.stop_before-stop.result (g.C.CellRunner.session_of c.replay_between.new.session) = c.in_ok-replay_between.ensures b run stands in
    c.keep_at-2.ensures.snapshots b stop on kept

pub replay_between-requires-2-clause-order : goal.replay_between-requires-2-clause-order
replay_between-requires-2-clause-order g c = grind (arith, common_steps)

pub replay_between-requires-2-clause-run : goal.replay_between-requires-2-clause-run
replay_between-requires-2-clause-run g c = grind (arith, common_steps)

pub replay_between-requires-2-clause-within : goal.replay_between-requires-2-clause-within
replay_between-requires-2-clause-within g c = grind (arith, common_steps)

pub replay_between-requires-clause-order : goal.replay_between-requires-clause-order
replay_between-requires-clause-order g c = grind (arith, common_steps)

pub replay_between-requires-clause-within : goal.replay_between-requires-clause-within
replay_between-requires-clause-within g c = grind (arith, common_steps)
