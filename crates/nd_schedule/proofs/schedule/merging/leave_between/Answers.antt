use Rattle.std.proofs.Common.{◌≡◌, ℕ, length, subst, arith}
use Rattle.nd_model.specs.Book.Book.{Book}
use Rattle.nd_schedule.specs.Schedule.Sweep.{IsAt}
use Rattle.nd_schedule.proofs.schedule.Coming.{place_on}
use Rattle.nd_schedule.proofs.schedule.Kept.{as_many}
use Rattle.nd_schedule.proofs.schedule.merging.leave_between.Goals as goal

pub loop-k-init : goal.loop-k-init
loop-k-init g c = record { at = λ old new j run place at. at; covered = c.requires.covered }

pub leave-requires-clause-at : goal.leave-requires-clause-at
leave-requires-clause-at g c =
    let old : Book = c.requires.at.0 in
    let new : Book = c.requires.at.1 in
    let j : ℕ = c.requires.at.2 in
    let many : length c.args.records.now ≡ length old.cells = as_many (λ r. g.C.CellRunner.recorded r.value) old c.args.records.now (c.requires.at.3).records in
    (old, new, j, c.requires.at.3, place_on old new c.args.i j c.loop-k.k c.requires.at.4 (omega (arith, many, c.requires.records)), c.loop-k.invariant.at old new j c.requires.at.3 c.requires.at.4 c.requires.at.5)

pub loop-k-preserved : goal.loop-k-preserved
loop-k-preserved g c = record {
  at = λ old new j run place at.
      let many : length c.args.records.now ≡ length old.cells = as_many (λ r. g.C.CellRunner.recorded r.value) old c.args.records.now run.records in
      c.in_ok-leave.ensures.at old new j run (place_on old new c.args.i j c.loop-k.k place (omega (arith, many, c.requires.records))) (c.loop-k.invariant.at old new j run place at);
  covered = c.in_ok-leave.ensures.covered;
}

pub returns-clause-at : goal.returns-clause-at
returns-clause-at g c = λ old new j run place at. let e : c.loop-k.k ≡ c.args.to = omega arith in
    subst (λ k. IsAt old new k j (g.C.CellRunner.change_of c.loop-k.state.change) (g.C.CellRunner.session_of c.loop-k.state.session) c.loop-k.state.since) e (c.loop-k.invariant.at old new j run place at)

pub returns-clause-covered : goal.returns-clause-covered
returns-clause-covered g c = c.loop-k.invariant.covered
