use Rattle.std.proofs.lemmas.Grind.{common_steps}
use Rattle.std.proofs.Common.{◌≡◌, List, length, map, refl, take, sym, ap, ap₂, subst, ◌∙◌, arith}
use Rattle.std.specs.List.{All}
use Rattle.std.proofs.lemmas.List.{length-map}
use Rattle.nd_model.specs.Book.Renaming.{AreDistinct}
use Rattle.nd_model.specs.Book.Book.{Book, Cell, labels_of}
use Rattle.nd_model.specs.Book.Notebook.{Sheet, book_of}
use Rattle.nd_model.proofs.Lazy.{same_front}
use Rattle.nd_schedule.specs.Cells.Source.{sheet, cell_of, cells_of}
use Rattle.nd_schedule.specs.Cells.Shared.{each_of}
use Rattle.nd_schedule.specs.Schedule.Ran.{AreStale}
use Rattle.nd_schedule.specs.Schedule.Snapshot.{IsBehind, IsSnapshot}
use Rattle.nd_schedule.specs.Schedule.Sweep.{IsKept}
use Rattle.nd_schedule.proofs.schedule.Sweeping.{counts_stale, none_yet}
use Rattle.nd_schedule.proofs.schedule.Joining.{kept_merged, same_whole}
use Rattle.nd_schedule.proofs.schedule.Runs.{ran_nothing}
use Rattle.nd_schedule.proofs.schedule.notebook.Schedule.replace_cells.Goals as goal

pub invariant_of-self : goal.invariant_of-self
invariant_of-self g c =
    let run : IsKept g.C.CellRunner.covers (book_of c.args.self.now) (each_of g.C.CellRunner.recorded c.self.inside.records.items) c.self.inside.words.items =
    subst (λ (s : Sheet). IsKept g.C.CellRunner.covers (book_of s) (each_of g.C.CellRunner.recorded c.self.inside.records.items) c.self.inside.words.items) c.self.view_is (c.self.invariant).0 in
    let old : Book = book_of c.args.self.now in
    let new : Book = book_of (sheet c.args.draft c.args.self.now.given) in
    let same : take c.first_other-front.result c.args.self.now.cells ≡ take c.first_other-front.result c.args.draft =
    ap (take c.first_other-front.result) (sym (ap cells_of c.deref.ensures.value ∙ ap (λ (s : Sheet). s.cells) c.self.view_is)) ∙ c.first_other-front.ensures.same ∙ ap (take c.first_other-front.result) (ap cells_of c.deref-2.ensures.value ∙ c.draft.view_is) in
    let distinct : AreDistinct (labels_of c.args.draft) = subst (λ cs. AreDistinct (labels_of cs)) c.draft.view_is (c.draft.invariant).0 in
    let shown : sheet (cells_of c.draft.inside.cells.items) (g.C.CellRunner.given c.self.inside.world) ≡ sheet c.args.draft c.args.self.now.given = ap₂ sheet c.draft.view_is (ap (λ (s : Sheet). s.given) c.self.view_is) in
    let behind : IsBehind old new c.first_other-front.result = record {
      same = same_front c.first_other-front.result old new refl same;
      within = omega (arith, c.first_other-front.ensures.there, ap length c.deref-2.ensures.value, length-map c.draft.inside.cells.items (λ s. cell_of s.value), ap length c.draft.view_is);
      before = run.run.distinct;
      distinct = distinct;
    } in
    let kept : All (λ x. IsSnapshot old x.place (g.C.CellRunner.kept_session x.version) (map g.C.CellRunner.change_of x.pending.items)) c.self.inside.snapshots.items =
    subst (λ (s : Sheet). All (λ x. IsSnapshot (book_of s) x.place (g.C.CellRunner.kept_session x.version) (map g.C.CellRunner.change_of x.pending.items)) c.self.inside.snapshots.items) c.self.view_is (c.self.invariant).1 in (
      subst (λ (s : Sheet). IsKept g.C.CellRunner.covers (book_of s) (each_of g.C.CellRunner.recorded c.in_ok-merged.field-0.merged.records.items) c.in_ok-merged.field-0.merged.words.items) (sym shown)
          (kept_merged g.C.CellRunner.covers old new _ _ _ distinct c.in_ok-merged.ensures.merged),
      subst (λ (s : Sheet). All (λ x. IsSnapshot (book_of s) x.place (g.C.CellRunner.kept_session x.version) (map g.C.CellRunner.change_of x.pending.items)) c.carry.new.snapshots.items) (sym shown)
          (c.carry.ensures old new behind c.in_ok-merged.ensures.noted c.in_ok-merged.ensures.fresh kept),
      (c.draft.invariant).2,
    )

pub returns-clause-ok : goal.returns-clause-ok
returns-clause-ok g c = ap₂ sheet c.draft.view_is (ap (λ (s : Sheet). s.given) c.self.view_is)

pub returns-clause-ran : goal.returns-clause-ran
returns-clause-ran g c = c.in_ok-merged.ensures.merged.stale

pub merged_behind-requires-clause-same : goal.merged_behind-requires-clause-same
merged_behind-requires-clause-same g c =
    let same : take c.first_other-front.result c.args.self.now.cells ≡ take c.first_other-front.result c.args.draft =
    ap (take c.first_other-front.result) (sym (ap cells_of c.deref.ensures.value ∙ ap (λ (s : Sheet). s.cells) c.self.view_is)) ∙ c.first_other-front.ensures.same ∙ ap (take c.first_other-front.result) (ap cells_of c.deref-2.ensures.value ∙ c.draft.view_is) in
    same

pub returns-then-front-len-2-clause-ok : goal.returns-then-front-len-2-clause-ok
returns-then-front-len-2-clause-ok g c =
    let same : take c.first_other-front.result c.args.self.now.cells ≡ take c.first_other-front.result c.args.draft =
    ap (take c.first_other-front.result) (sym (ap cells_of c.deref.ensures.value ∙ ap (λ (s : Sheet). s.cells) c.self.view_is)) ∙ c.first_other-front.ensures.same ∙ ap (take c.first_other-front.result) (ap cells_of c.deref-2.ensures.value ∙ c.draft.view_is) in
    let whole : c.args.self.now.cells ≡ c.args.draft =
    same_whole c.args.self.now.cells c.args.draft c.first_other-front.result same
    (omega (arith, c.if-front-len.true, c.len.ensures, length-map c.self.inside.cells.items (λ s. cell_of s.value), ap (λ (s : Sheet). length s.cells) c.self.view_is))
    (omega (arith, c.if-front-len-2.true, c.len-then-front-len.ensures, length-map c.draft.inside.cells.items (λ s. cell_of s.value), ap length c.draft.view_is)) in
    ap (λ (cs : List Cell). sheet cs c.args.self.now.given) whole

pub returns-then-front-len-2-clause-ran : goal.returns-then-front-len-2-clause-ran
returns-then-front-len-2-clause-ran g c =
    let run : IsKept g.C.CellRunner.covers (book_of c.args.self.now) (each_of g.C.CellRunner.recorded c.self.inside.records.items) c.self.inside.words.items =
    subst (λ (s : Sheet). IsKept g.C.CellRunner.covers (book_of s) (each_of g.C.CellRunner.recorded c.self.inside.records.items) c.self.inside.words.items) c.self.view_is (c.self.invariant).0 in
    let same : take c.first_other-front.result c.args.self.now.cells ≡ take c.first_other-front.result c.args.draft =
    ap (take c.first_other-front.result) (sym (ap cells_of c.deref.ensures.value ∙ ap (λ (s : Sheet). s.cells) c.self.view_is)) ∙ c.first_other-front.ensures.same ∙ ap (take c.first_other-front.result) (ap cells_of c.deref-2.ensures.value ∙ c.draft.view_is) in
    let whole : c.args.self.now.cells ≡ c.args.draft =
    same_whole c.args.self.now.cells c.args.draft c.first_other-front.result same
    (omega (arith, c.if-front-len.true, c.len.ensures, length-map c.self.inside.cells.items (λ s. cell_of s.value), ap (λ (s : Sheet). length s.cells) c.self.view_is))
    (omega (arith, c.if-front-len-2.true, c.len-then-front-len.ensures, length-map c.draft.inside.cells.items (λ s. cell_of s.value), ap length c.draft.view_is)) in
    subst (λ (cs : List Cell). AreStale (book_of c.args.self.now) (book_of (sheet cs c.args.self.now.given)) c.new.result.items) whole
    (subst (AreStale (book_of c.args.self.now) (book_of c.args.self.now)) (sym c.new.ensures.items) (ran_nothing (book_of c.args.self.now) run.run.distinct))

pub returns-then-front-len-2-clause-counts : goal.returns-then-front-len-2-clause-counts
returns-then-front-len-2-clause-counts g c =
    let old : Book = book_of c.args.self.now in
    let new : Book = book_of (sheet c.args.draft c.args.self.now.given) in
    counts_stale old new 0 c.args.meter.now c.args.meter.now (none_yet old new 0 c.args.meter.now)

pub returns-then-front-len-2-clause-err : goal.returns-then-front-len-2-clause-err
returns-then-front-len-2-clause-err g c = tt

pub returns-clause-counts : goal.returns-clause-counts
returns-clause-counts g c = c.merged_behind.ensures.counts

pub returns-clause-err : goal.returns-clause-err
returns-clause-err g c = tt

pub returns-in_err-merged-clause-counts : goal.returns-in_err-merged-clause-counts
returns-in_err-merged-clause-counts g c = c.merged_behind.ensures.counts

pub returns-in_err-merged-clause-err : goal.returns-in_err-merged-clause-err
returns-in_err-merged-clause-err g c = grind (arith, common_steps)

pub merged_behind-requires-clause-within : goal.merged_behind-requires-clause-within
merged_behind-requires-clause-within g c = grind (arith, common_steps)

pub merged_behind-requires-clause-there : goal.merged_behind-requires-clause-there
merged_behind-requires-clause-there g c = grind (arith, common_steps)
