use Rattle.std.proofs.Common.{ap, subst, arith}
use Rattle.nd_model.specs.Book.Book.{Book}
use Rattle.nd_model.specs.Cells.Running.{World}
use Rattle.nd_model.specs.Book.Notebook.{Sheet, book_of, world_in}
use Rattle.nd_schedule.specs.Cells.Source.{sheet}
use Rattle.nd_change.specs.Change.{IsOver}
use Rattle.nd_schedule.proofs.schedule.Joining.{begins_over, front_none}
use Rattle.nd_schedule.proofs.schedule.Sweeping.{counts_stale, none_yet}
use Rattle.nd_schedule.proofs.schedule.notebook.Schedule.merged_over.Goals as goal

pub returns-in_err-session-clause-counts : goal.returns-in_err-session-clause-counts
returns-in_err-session-clause-counts g c =
    let old : Book = book_of c.args.self.now in
    let new : Book = book_of (sheet c.args.draft.now (g.C.CellRunner.given c.args.world.now)) in
    counts_stale old new 0 c.args.meter.now c.args.meter.now (none_yet old new 0 c.args.meter.now)

pub returns-in_err-change-clause-counts : goal.returns-in_err-change-clause-counts
returns-in_err-change-clause-counts g c =
    let old : Book = book_of c.args.self.now in
    let new : Book = book_of (sheet c.args.draft.now (g.C.CellRunner.given c.args.world.now)) in
    counts_stale old new 0 c.args.meter.now c.args.meter.now (none_yet old new 0 c.args.meter.now)

pub merge-requires-clause-within : goal.merge-requires-clause-within
merge-requires-clause-within g c = omega arith

pub merge-requires-clause-front : goal.merge-requires-clause-front
merge-requires-clause-front g c =
    let old : Book = book_of c.args.self.now in
    let new : Book = book_of (sheet c.args.draft.now (g.C.CellRunner.given c.args.world.now)) in
    front_none old new

pub merge-requires-clause-at : goal.merge-requires-clause-at
merge-requires-clause-at g c =
    let old : Book = book_of c.args.self.now in
    let new : Book = book_of (sheet c.args.draft.now (g.C.CellRunner.given c.args.world.now)) in
    begins_over old new (g.C.CellRunner.change_of c.in_ok-change.change) _
    (λ t. subst (λ (i : World). IsOver (g.C.CellRunner.change_of c.in_ok-change.change) t i t new.world) (ap (λ (s : Sheet). world_in s.given) c.self.view_is) (c.in_ok-change.ensures t)) c.in_ok-session.ensures

pub merge-requires-clause-covered : goal.merge-requires-clause-covered
merge-requires-clause-covered g c = c.change_word-word.ensures

pub returns-clause-counts : goal.returns-clause-counts
returns-clause-counts g c = c.merge.ensures.counts

pub returns-clause-merged : goal.returns-clause-merged
returns-clause-merged g c = c.merge.ensures.merged

pub returns-clause-noted : goal.returns-clause-noted
returns-clause-noted g c = c.merge.ensures.noted
