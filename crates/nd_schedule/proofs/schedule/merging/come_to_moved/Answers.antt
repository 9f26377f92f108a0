use Rattle.std.proofs.Common.{◌<◌, ◌+◌, length, refl, sym, ap, subst, ◌∙◌, arith}
use Rattle.nd_model.specs.Book.Book.{Book}
use Rattle.nd_schedule.specs.Cells.Source.{cell_of}
use Rattle.nd_schedule.specs.Schedule.Sweep.{IsAt}
use Rattle.nd_schedule.proofs.schedule.Coming.{next_coming, on_any}
use Rattle.nd_schedule.proofs.schedule.Kept.{as_many}
use Rattle.nd_schedule.proofs.schedule.Sweeping.{record_there}
use Rattle.nd_schedule.proofs.schedule.Turning.{if_ok_more, made_there}
use Rattle.nd_schedule.proofs.schedule.merging.come_to_moved.Goals as goal

pub enter-requires-clause-at : goal.enter-requires-clause-at
enter-requires-clause-at g c =
    let old : Book = c.requires.at.0 in
    let new : Book = c.requires.at.1 in
    let next = c.requires.at.2 in
    let same = c.requires.at.3 in
    let lt : c.args.k < length old.cells = omega (arith, c.requires.record, as_many (λ r. g.C.CellRunner.recorded r.value) old c.args.records.now next.run.records) in
    (old, new, c.args.k, c.args.now, (next_coming old new c.args.i c.args.now _ (cell_of c.args.source.now) _ next old.cells c.args.k _ refl (record { within = lt; same = same }) (ap g.C.CellRunner.recorded c.deref.ensures ∙ record_there (λ r. g.C.CellRunner.recorded r.value) old c.args.records.now c.index-records-k.result c.args.k next.run.records lt c.index-records-k.is)), c.requires.at.4)

pub returns-in_err-made-clause-counts : goal.returns-in_err-made-clause-counts
returns-in_err-made-clause-counts g c = λ old new before next same at so_far.
    let lt : c.args.k < length old.cells = omega (arith, c.requires.record, as_many (λ r. g.C.CellRunner.recorded r.value) old c.args.records.now next.run.records) in
    c.enter.ensures.counts old new c.args.k c.args.now before (next_coming old new c.args.i c.args.now _ (cell_of c.args.source.now) _ next old.cells c.args.k _ refl (record { within = lt; same = same }) (ap g.C.CellRunner.recorded c.deref.ensures ∙ record_there (λ r. g.C.CellRunner.recorded r.value) old c.args.records.now c.index-records-k.result c.args.k next.run.records lt c.index-records-k.is)) at so_far

pub settle-requires-clause-worded : goal.settle-requires-clause-worded
settle-requires-clause-worded g c = c.in_ok-made.ensures.worded

pub returns-clause-at : goal.returns-clause-at
returns-clause-at g c = if_ok_more c.settle.result c.settle.ensures.behind (λ p is old new next same at.
    let lt : c.args.k < length old.cells = omega (arith, c.requires.record, as_many (λ r. g.C.CellRunner.recorded r.value) old c.args.records.now next.run.records) in
    subst (λ b. IsAt old new b (c.args.now + 1) (g.C.CellRunner.change_of c.enter.new.state.change) (g.C.CellRunner.session_of c.enter.new.state.session) c.enter.new.state.since) (sym is)
    (c.in_ok-made.ensures.at old new c.args.k c.args.now (next_coming old new c.args.i c.args.now _ (cell_of c.args.source.now) _ next old.cells c.args.k _ refl (record { within = lt; same = same }) (ap g.C.CellRunner.recorded c.deref.ensures ∙ record_there (λ r. g.C.CellRunner.recorded r.value) old c.args.records.now c.index-records-k.result c.args.k next.run.records lt c.index-records-k.is)) at))

pub returns-clause-placed : goal.returns-clause-placed
returns-clause-placed g c = if_ok_more c.settle.result c.settle.ensures.placed (λ p h old new next same at.
    let lt : c.args.k < length old.cells = omega (arith, c.requires.record, as_many (λ r. g.C.CellRunner.recorded r.value) old c.args.records.now next.run.records) in
    let coming = next_coming old new c.args.i c.args.now _ (cell_of c.args.source.now) _ next old.cells c.args.k _ refl (record { within = lt; same = same }) (ap g.C.CellRunner.recorded c.deref.ensures ∙ record_there (λ r. g.C.CellRunner.recorded r.value) old c.args.records.now c.index-records-k.result c.args.k next.run.records lt c.index-records-k.is) in
    h old new c.args.now next.run
    (made_there (λ n. g.C.CellRunner.recorded n.record.value) c.in_ok-made.made _ _ _ (ap g.C.CellRunner.recorded c.deref.ensures ∙ record_there (λ r. g.C.CellRunner.recorded r.value) old c.args.records.now c.index-records-k.result c.args.k next.run.records lt c.index-records-k.is) (c.in_ok-made.ensures.made old new c.args.k c.args.now coming at))
    (c.in_ok-made.ensures.stale old new c.args.k c.args.now coming at))

pub returns-clause-worded : goal.returns-clause-worded
returns-clause-worded g c = c.settle.ensures.worded

pub returns-clause-behind : goal.returns-clause-behind
returns-clause-behind g c = c.settle.ensures.behind

pub returns-clause-covered : goal.returns-clause-covered
returns-clause-covered g c = on_any c.settle.result c.in_ok-made.ensures.covered

pub returns-clause-counts : goal.returns-clause-counts
returns-clause-counts g c = λ old new before next same at so_far.
    let lt : c.args.k < length old.cells = omega (arith, c.requires.record, as_many (λ r. g.C.CellRunner.recorded r.value) old c.args.records.now next.run.records) in
    c.enter.ensures.counts old new c.args.k c.args.now before (next_coming old new c.args.i c.args.now _ (cell_of c.args.source.now) _ next old.cells c.args.k _ refl (record { within = lt; same = same }) (ap g.C.CellRunner.recorded c.deref.ensures ∙ record_there (λ r. g.C.CellRunner.recorded r.value) old c.args.records.now c.index-records-k.result c.args.k next.run.records lt c.index-records-k.is)) at so_far
