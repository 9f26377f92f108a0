use Rattle.std.proofs.Common.{◌≡◌, length, sym, ap, subst}
use Rattle.std.specs.List.{All}
use Rattle.nd_model.specs.Book.Book.{Book}
use Rattle.nd_model.specs.Book.Notebook.{Setting, Sheet, book_of, world_in}
use Rattle.nd_model.specs.Book.Stale.{CountsStale}
use Rattle.nd_model.proofs.Lazy.{same_front}
use Rattle.nd_schedule.specs.Cells.Source.{sheet}
use Rattle.nd_schedule.specs.Cells.Shared.{each_of}
use Rattle.nd_schedule.specs.Schedule.Merge.{AreMerged}
use Rattle.nd_schedule.specs.Schedule.Snapshot.{IsNoted}
use Rattle.nd_schedule.specs.Schedule.Sweep.{IsKept}
use Rattle.nd_schedule.proofs.schedule.Joining.{front_is}
use Rattle.nd_schedule.proofs.schedule.Sweeping.{counts_stale, none_yet}
use Rattle.nd_schedule.proofs.schedule.notebook.Schedule.merged_behind.Goals as goal

pub begin-state-requires-clause-at : goal.begin-state-requires-clause-at
begin-state-requires-clause-at g c = c.requires.within

pub begin-state-requires-clause-session : goal.begin-state-requires-clause-session
begin-state-requires-clause-session g c = c.in_ok-session.ensures.session

pub merge-requires-clause-within : goal.merge-requires-clause-within
merge-requires-clause-within g c = c.requires.within

pub merge-requires-clause-front : goal.merge-requires-clause-front
merge-requires-clause-front g c =
    let run : IsKept g.C.CellRunner.covers (book_of c.args.self.now) (each_of g.C.CellRunner.recorded c.self.inside.records.items) c.self.inside.words.items =
    subst (λ (s : Sheet). IsKept g.C.CellRunner.covers (book_of s) (each_of g.C.CellRunner.recorded c.self.inside.records.items) c.self.inside.words.items) c.self.view_is (c.self.invariant).0 in
    let old : Book = book_of c.args.self.now in
    let given : g.C.CellRunner.given c.self.inside.world ≡ c.args.self.now.given = ap (λ (s : Sheet). s.given) c.self.view_is in
    let new : Book = book_of (sheet c.args.draft.now (g.C.CellRunner.given c.self.inside.world)) in
    front_is old new c.args.front run.run.distinct (sym (ap world_in given)) c.requires.within c.requires.there c.requires.same

pub merge-requires-clause-at : goal.merge-requires-clause-at
merge-requires-clause-at g c =
    let old : Book = book_of c.args.self.now in
    let given : g.C.CellRunner.given c.self.inside.world ≡ c.args.self.now.given = ap (λ (s : Sheet). s.given) c.self.view_is in
    let new : Book = book_of (sheet c.args.draft.now (g.C.CellRunner.given c.self.inside.world)) in
    c.begin-state.ensures.at new (same_front c.args.front old new (sym (ap world_in given)) c.requires.same) (sym (ap world_in given))

pub merge-requires-clause-covered : goal.merge-requires-clause-covered
merge-requires-clause-covered g c = c.begin-state.ensures.covered

pub returns-in_err-session-clause-counts : goal.returns-in_err-session-clause-counts
returns-in_err-session-clause-counts g c =
    counts_stale (book_of c.args.self.now) (book_of (sheet c.args.draft.now c.args.self.now.given)) 0 c.args.meter.now c.args.meter.now (none_yet (book_of c.args.self.now) (book_of (sheet c.args.draft.now c.args.self.now.given)) 0 c.args.meter.now)

pub returns-in_err-merged-clause-counts : goal.returns-in_err-merged-clause-counts
returns-in_err-merged-clause-counts g c =
    let old : Book = book_of c.args.self.now in
    let given : g.C.CellRunner.given c.self.inside.world ≡ c.args.self.now.given = ap (λ (s : Sheet). s.given) c.self.view_is in
    let new : Book = book_of (sheet c.args.draft.now (g.C.CellRunner.given c.self.inside.world)) in
    subst (λ (i : Setting). CountsStale old (book_of (sheet c.args.draft.now i)) c.args.meter.now c.merge.new.meter) given c.merge.ensures.counts

pub returns-clause-counts : goal.returns-clause-counts
returns-clause-counts g c =
    let old : Book = book_of c.args.self.now in
    let given : g.C.CellRunner.given c.self.inside.world ≡ c.args.self.now.given = ap (λ (s : Sheet). s.given) c.self.view_is in
    let new : Book = book_of (sheet c.args.draft.now (g.C.CellRunner.given c.self.inside.world)) in
    subst (λ (i : Setting). CountsStale old (book_of (sheet c.args.draft.now i)) c.args.meter.now c.merge.new.meter) given c.merge.ensures.counts

pub returns-clause-fresh : goal.returns-clause-fresh
returns-clause-fresh g c = c.in_ok-session.ensures.fresh

pub returns-clause-merged : goal.returns-clause-merged
returns-clause-merged g c =
    let old : Book = book_of c.args.self.now in
    let given : g.C.CellRunner.given c.self.inside.world ≡ c.args.self.now.given = ap (λ (s : Sheet). s.given) c.self.view_is in
    let new : Book = book_of (sheet c.args.draft.now (g.C.CellRunner.given c.self.inside.world)) in
    subst (λ (i : Setting). AreMerged g.C.CellRunner.covers old (book_of (sheet c.args.draft.now i)) (length c.args.draft.now) (each_of g.C.CellRunner.recorded c.in_ok-merged.field-0.merged.records.items) c.in_ok-merged.field-0.merged.words.items c.in_ok-merged.field-0.merged.ran.items) given c.in_ok-merged.ensures.merged

pub returns-clause-noted : goal.returns-clause-noted
returns-clause-noted g c =
    let old : Book = book_of c.args.self.now in
    let given : g.C.CellRunner.given c.self.inside.world ≡ c.args.self.now.given = ap (λ (s : Sheet). s.given) c.self.view_is in
    subst (λ (i : Setting). All (λ n. IsNoted g.C.CellRunner.change_of g.C.CellRunner.kept_session old (book_of (sheet c.args.draft.now i)) n.place n.now n.memo) c.in_ok-merged.field-0.noted.items) given c.in_ok-merged.ensures.noted
