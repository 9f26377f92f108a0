use Rattle.std.proofs.lemmas.Grind.{common_steps}
use Rattle.std.proofs.Common.{arith, refl, ◌∙◌}
use Rattle.nd_model.specs.Book.Book.{Book}
use Rattle.nd_schedule.specs.Cells.Source.{cell_of}
use Rattle.nd_schedule.proofs.schedule.Coming.{here_at, next_counts, next_none, next_record}
use Rattle.nd_schedule.proofs.schedule.Sweeping.{counts_same}
use Rattle.nd_schedule.proofs.schedule.merging.come_to_new.Goals as goal

pub returns-in_err-come_to-clause-counts : goal.returns-in_err-come_to-clause-counts
returns-in_err-come_to-clause-counts g c = λ old new before next stale so_far. counts_same old new c.args.now before _ next.there so_far

pub run_new-requires-clause-none : goal.run_new-requires-clause-none
run_new-requires-clause-none g c =
    let old : Book = c.requires.at.0 in
    let new : Book = c.requires.at.1 in
    next_none old new c.args.i c.args.now _ _ _ c.requires.at.2 (g.C.CellRunner.session_of c.come_to.new.state.session)
    (c.in_ok-come_to.ensures.at old new c.args.now (c.requires.at.2).run (c.requires.at.2).place c.requires.at.3).hand

pub returns-in_err-record-clause-counts : goal.returns-in_err-record-clause-counts
returns-in_err-record-clause-counts g c = λ old new before next stale so_far. next_counts old new c.args.i c.args.now _ (cell_of c.args.source.now) _ next before _ _ stale so_far c.run_new.ensures.counted

pub returns-clause-at : goal.returns-clause-at
returns-clause-at g c = λ old new next at. here_at old new c.args.i c.args.now _ (cell_of c.args.source.now) _ next (g.C.CellRunner.session_of c.come_to.new.state.session) (c.in_ok-come_to.ensures.at old new c.args.now next.run next.place at).hand _ _ _ _ _ (c.in_ok-come_to.ensures.at old new c.args.now next.run next.place at).over c.in_ok-record.ensures.made c.in_ok-record.ensures.after c.in_ok-record.ensures.comes (c.in_ok-record.ensures.since ∙ c.in_ok-come_to.ensures.since)

pub returns-clause-placed : goal.returns-clause-placed
returns-clause-placed g c = λ old new next stale at. record { made = c.in_ok-record.ensures.made ∙ next_record old new c.args.i c.args.now _ (cell_of c.args.source.now) _ next (g.C.CellRunner.session_of c.come_to.new.state.session) (c.in_ok-come_to.ensures.at old new c.args.now next.run next.place at).hand; stale = (λ t. stale, λ s. refl) }

pub returns-clause-worded : goal.returns-clause-worded
returns-clause-worded g c = c.in_ok-record.ensures.worded

pub returns-clause-covered : goal.returns-clause-covered
returns-clause-covered g c = c.in_ok-record.ensures.word

pub returns-clause-counts : goal.returns-clause-counts
returns-clause-counts g c = λ old new before next stale so_far. next_counts old new c.args.i c.args.now _ (cell_of c.args.source.now) _ next before _ _ stale so_far c.run_new.ensures.counted

pub returns-clause-behind : goal.returns-clause-behind
returns-clause-behind g c = grind (arith, common_steps)
