use Rattle.std.proofs.Common.{◌≡◌, ◌<◌, length, refl, ap, ◌∙◌, arith}
use Rattle.nd_model.specs.Book.Book.{Book}
use Rattle.nd_model.specs.Book.Entries.{entry_at, record_at}
use Rattle.nd_schedule.specs.Cells.Source.{cell_of}
use Rattle.nd_schedule.proofs.schedule.Coming.{next_counts, next_none, next_record, there_at}
use Rattle.nd_schedule.proofs.schedule.Kept.{as_many}
use Rattle.nd_schedule.proofs.schedule.Sweeping.{counts_same, record_there}
use Rattle.nd_schedule.proofs.schedule.merging.run_there.Goals as goal

pub returns-in_err-come_to-clause-counts : goal.returns-in_err-come_to-clause-counts
returns-in_err-come_to-clause-counts g c = λ old new before next stale so_far. counts_same old new c.args.now before _ next.there so_far

pub run_cell-requires-clause-none : goal.run_cell-requires-clause-none
run_cell-requires-clause-none g c =
    let old : Book = c.requires.at.0 in
    let new : Book = c.requires.at.1 in
    next_none old new c.args.i c.args.now _ _ _ c.requires.at.2 (g.C.CellRunner.session_of c.come_to.new.state.session)
    (c.in_ok-come_to.ensures.at old new c.args.now (c.requires.at.2).run (c.requires.at.2).place c.requires.at.3).hand

pub returns-in_err-new-clause-counts : goal.returns-in_err-new-clause-counts
returns-in_err-new-clause-counts g c = λ old new before next stale so_far. next_counts old new c.args.i c.args.now _ (cell_of c.args.source.now) _ next before _ _ stale so_far c.run_cell.ensures.counted

pub returns-in_err-rerun-clause-counts : goal.returns-in_err-rerun-clause-counts
returns-in_err-rerun-clause-counts g c = λ old new before next stale so_far. next_counts old new c.args.i c.args.now _ (cell_of c.args.source.now) _ next before _ _ stale so_far c.run_cell.ensures.counted

pub returns-clause-at : goal.returns-clause-at
returns-clause-at g c = λ old new next at.
    let lt : c.args.i < length old.cells = omega (arith, c.requires.record, as_many (λ r. g.C.CellRunner.recorded r.value) old c.args.records.now next.run.records) in
    let here = c.in_ok-come_to.ensures.at old new c.args.now next.run next.place at in
    let was : g.C.CellRunner.recorded c.deref.result.now ≡ record_at old.world (entry_at old c.args.i) =
    ap g.C.CellRunner.recorded c.deref.ensures ∙ record_there (λ r. g.C.CellRunner.recorded r.value) old c.args.records.now c.index-records-i.result c.args.i next.run.records lt c.index-records-i.is in
    there_at old new c.args.i c.args.now _ (cell_of c.args.source.now) _ next (g.C.CellRunner.session_of c.come_to.new.state.session) here.hand lt _ _ _ _ _ _ here.over was
    (ap g.C.CellRunner.recorded c.deref-2.ensures ∙ c.in_ok-new.ensures.made) c.in_ok-new.ensures.after c.in_ok-rerun.ensures refl

pub returns-clause-made : goal.returns-clause-made
returns-clause-made g c = λ old new next at.
    c.in_ok-new.ensures.made
    ∙ next_record old new c.args.i c.args.now _ (cell_of c.args.source.now) _ next (g.C.CellRunner.session_of c.come_to.new.state.session) (c.in_ok-come_to.ensures.at old new c.args.now next.run next.place at).hand

pub returns-clause-counts : goal.returns-clause-counts
returns-clause-counts g c = λ old new before next stale so_far. next_counts old new c.args.i c.args.now _ (cell_of c.args.source.now) _ next before _ _ stale so_far c.run_cell.ensures.counted
