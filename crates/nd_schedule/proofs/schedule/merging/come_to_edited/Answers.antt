use Rattle.std.proofs.Common.{◌<◌, ◌+◌, length, sym, subst, arith}
use Rattle.nd_model.specs.Book.Book.{Book}
use Rattle.nd_schedule.specs.Cells.Source.{cell_of}
use Rattle.nd_schedule.specs.Schedule.Sweep.{IsAt}
use Rattle.nd_schedule.proofs.schedule.Coming.{next_on, on_any}
use Rattle.nd_schedule.proofs.schedule.Kept.{as_many}
use Rattle.nd_schedule.proofs.schedule.Sweeping.{counts_same}
use Rattle.nd_schedule.proofs.schedule.Turning.{if_ok_more}
use Rattle.nd_schedule.proofs.schedule.merging.come_to_edited.Goals as goal

pub leave_between-requires-clause-records : goal.leave_between-requires-clause-records
leave_between-requires-clause-records g c = omega (arith, c.requires.record)

pub leave_between-requires-clause-at : goal.leave_between-requires-clause-at
leave_between-requires-clause-at g c = (c.requires.at.0, c.requires.at.1, c.args.now, (c.requires.at.2).run, (c.requires.at.2).place, c.requires.at.4)

pub leave_between-requires-clause-covered : goal.leave_between-requires-clause-covered
leave_between-requires-clause-covered g c = c.requires.covered

pub returns-in_err-leave_between-clause-counts : goal.returns-in_err-leave_between-clause-counts
returns-in_err-leave_between-clause-counts g c = λ old new before next stale at so_far. counts_same old new c.args.now before _ next.there so_far

pub run_there-requires-clause-at : goal.run_there-requires-clause-at
run_there-requires-clause-at g c =
    let old : Book = c.requires.at.0 in
    let new : Book = c.requires.at.1 in
    let next = c.requires.at.2 in
    let lt : c.args.k < length old.cells = omega (arith, c.requires.record, as_many (λ r. g.C.CellRunner.recorded r.value) old c.args.records.now next.run.records) in
    (old, new, next_on old new c.args.i c.args.now _ (cell_of c.args.source.now) _ next c.args.k (omega (arith, lt)), c.in_ok-leave_between.ensures.at old new c.args.now next.run next.place c.requires.at.4)

pub returns-in_err-new-clause-counts : goal.returns-in_err-new-clause-counts
returns-in_err-new-clause-counts g c = λ old new before next stale at so_far.
    let lt : c.args.k < length old.cells = omega (arith, c.requires.record, as_many (λ r. g.C.CellRunner.recorded r.value) old c.args.records.now next.run.records) in
    c.run_there.ensures.counts old new before (next_on old new c.args.i c.args.now _ (cell_of c.args.source.now) _ next c.args.k (omega (arith, lt))) stale so_far

pub settle-requires-clause-worded : goal.settle-requires-clause-worded
settle-requires-clause-worded g c = c.in_ok-new.ensures.worded

pub returns-clause-at : goal.returns-clause-at
returns-clause-at g c = if_ok_more c.settle.result c.settle.ensures.behind (λ p is old new next stale at.
    let lt : c.args.k < length old.cells = omega (arith, c.requires.record, as_many (λ r. g.C.CellRunner.recorded r.value) old c.args.records.now next.run.records) in
    subst (λ b. IsAt old new b (c.args.now + 1) (g.C.CellRunner.change_of c.run_there.new.state.change) (g.C.CellRunner.session_of c.run_there.new.state.session) c.run_there.new.state.since) (sym is)
    (c.in_ok-new.ensures.at old new (next_on old new c.args.i c.args.now _ (cell_of c.args.source.now) _ next c.args.k (omega (arith, lt))) (c.in_ok-leave_between.ensures.at old new c.args.now next.run next.place at)))

pub returns-clause-placed : goal.returns-clause-placed
returns-clause-placed g c = if_ok_more c.settle.result c.settle.ensures.placed (λ p h old new next stale at.
    let lt : c.args.k < length old.cells = omega (arith, c.requires.record, as_many (λ r. g.C.CellRunner.recorded r.value) old c.args.records.now next.run.records) in
    let on = next_on old new c.args.i c.args.now _ (cell_of c.args.source.now) _ next c.args.k (omega (arith, lt)) in
    let left = c.in_ok-leave_between.ensures.at old new c.args.now next.run next.place at in
    h old new c.args.now next.run (c.in_ok-new.ensures.made old new on left) stale)

pub returns-clause-worded : goal.returns-clause-worded
returns-clause-worded g c = c.settle.ensures.worded

pub returns-clause-behind : goal.returns-clause-behind
returns-clause-behind g c = c.settle.ensures.behind

pub returns-clause-covered : goal.returns-clause-covered
returns-clause-covered g c = on_any c.settle.result c.in_ok-new.ensures.covered

pub returns-clause-counts : goal.returns-clause-counts
returns-clause-counts g c = λ old new before next stale at so_far.
    let lt : c.args.k < length old.cells = omega (arith, c.requires.record, as_many (λ r. g.C.CellRunner.recorded r.value) old c.args.records.now next.run.records) in
    c.run_there.ensures.counts old new before (next_on old new c.args.i c.args.now _ (cell_of c.args.source.now) _ next c.args.k (omega (arith, lt))) stale so_far
