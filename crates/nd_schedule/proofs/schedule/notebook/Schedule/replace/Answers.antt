use Rattle.std.proofs.Common.{List, map, sym, ap, subst}
use Rattle.std.specs.List.{All}
use Rattle.nd_model.specs.Book.Renaming.{AreDistinct}
use Rattle.nd_model.specs.Book.Book.{Book, Cell, labels_of}
use Rattle.nd_model.specs.Book.Notebook.{Sheet, book_of}
use Rattle.nd_schedule.specs.Cells.Source.{sheet}
use Rattle.nd_schedule.specs.Cells.Shared.{each_of}
use Rattle.nd_schedule.specs.Schedule.Snapshot.{IsSnapshot}
use Rattle.nd_schedule.specs.Schedule.Sweep.{IsKept}
use Rattle.nd_schedule.proofs.schedule.Joining.{behind_any, kept_merged}
use Rattle.nd_schedule.proofs.schedule.Standing.{All-none}
use Rattle.nd_schedule.proofs.schedule.notebook.Schedule.replace.Goals as goal

pub invariant_of-self : goal.invariant_of-self
invariant_of-self g c =
    let old : Book = book_of c.args.self.now in
    let new : Book = book_of (sheet c.args.draft (g.C.CellRunner.given c.args.world)) in
    let distinct : AreDistinct (labels_of c.args.draft) = subst (λ cs. AreDistinct (labels_of cs)) c.draft.view_is (c.draft.invariant).0 in
    let run : IsKept g.C.CellRunner.covers (book_of c.args.self.now) (each_of g.C.CellRunner.recorded c.self.inside.records.items) c.self.inside.words.items =
    subst (λ (s : Sheet). IsKept g.C.CellRunner.covers (book_of s) (each_of g.C.CellRunner.recorded c.self.inside.records.items) c.self.inside.words.items) c.self.view_is (c.self.invariant).0 in
    let kept : IsKept g.C.CellRunner.covers new (each_of g.C.CellRunner.recorded c.in_ok-merged.field-0.merged.records.items) c.in_ok-merged.field-0.merged.words.items =
    kept_merged g.C.CellRunner.covers old new _ _ _ distinct c.in_ok-merged.ensures.merged in
    let snapshots : All (λ x. IsSnapshot old x.place (g.C.CellRunner.kept_session x.version) (map g.C.CellRunner.change_of x.pending.items)) c.self.inside.snapshots.items =
    subst (λ (s : Sheet). All (λ x. IsSnapshot (book_of s) x.place (g.C.CellRunner.kept_session x.version) (map g.C.CellRunner.change_of x.pending.items)) c.self.inside.snapshots.items) c.self.view_is (c.self.invariant).1 in (
      subst (λ cs. IsKept g.C.CellRunner.covers (book_of (sheet cs (g.C.CellRunner.given c.args.world))) (each_of g.C.CellRunner.recorded c.in_ok-merged.field-0.merged.records.items) c.in_ok-merged.field-0.merged.words.items) (sym c.draft.view_is) kept,
      subst (λ cs. All (λ x. IsSnapshot (book_of (sheet cs (g.C.CellRunner.given c.args.world))) x.place (g.C.CellRunner.kept_session x.version) (map g.C.CellRunner.change_of x.pending.items)) c.carry.new.snapshots.items) (sym c.draft.view_is)
          (c.carry.ensures old new (behind_any old new run.run.distinct distinct) c.in_ok-merged.ensures.noted (All-none (λ x. IsSnapshot old x.place (g.C.CellRunner.kept_session x.version) (map g.C.CellRunner.change_of x.pending.items)) c.new-fresh.result.items c.new-fresh.ensures.items) snapshots),
      (c.draft.invariant).2,
    )

pub returns-clause-ok : goal.returns-clause-ok
returns-clause-ok g c = ap (λ (cs : List Cell). sheet cs (g.C.CellRunner.given c.args.world)) c.draft.view_is

pub returns-clause-ran : goal.returns-clause-ran
returns-clause-ran g c = c.in_ok-merged.ensures.merged.stale
