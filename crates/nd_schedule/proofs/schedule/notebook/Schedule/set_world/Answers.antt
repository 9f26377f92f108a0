use Rattle.nd_schedule.proofs.schedule.Turning.{at_err}
use Rattle.std.proofs.Common.{◌≡◌, refl, ◌++◌, length, map, sym, ap, subst, ◌∙◌, arith}
use Rattle.std.proofs.lemmas.List.{length-map}
use Rattle.nd_model.specs.Book.Notebook.{Sheet, book_of}
use Rattle.nd_schedule.specs.Cells.Source.{sheet, cell_of}
use Rattle.nd_schedule.specs.Cells.Shared.{each_of}
use Rattle.nd_schedule.specs.Schedule.Ran.{AreStale, shifted}
use Rattle.nd_schedule.specs.declared.schedule.ran.Shift.TheVariants as shifts
use Rattle.nd_schedule.specs.Schedule.Sweep.{AreChanged, AreFit, IsKept, change_at, fit_at}
use Rattle.nd_schedule.proofs.schedule.Runs.{ran_over}
use Rattle.std.specs.List.{All}
use Rattle.nd_schedule.specs.Schedule.Snapshot.{IsNoted, IsSnapshot}
use Rattle.nd_schedule.proofs.schedule.Standing.{All-none}
use Rattle.nd_schedule.proofs.schedule.Kept.{as_many}
use Rattle.nd_schedule.proofs.schedule.Editing.{behind_none, kept_over}
use Rattle.nd_schedule.proofs.schedule.notebook.Schedule.set_world.Goals as goal

pub take_over-ran-requires-clause-fit : goal.take_over-ran-requires-clause-fit
take_over-ran-requires-clause-fit g c =
    let run : IsKept g.C.CellRunner.covers (book_of c.args.self.now) (each_of g.C.CellRunner.recorded c.self.inside.records.items) c.self.inside.words.items =
    subst (λ (s : Sheet). IsKept g.C.CellRunner.covers (book_of s) (each_of g.C.CellRunner.recorded c.self.inside.records.items) c.self.inside.words.items) c.self.view_is (c.self.invariant).0 in
    let many : length c.self.inside.records.items ≡ length c.args.self.now.cells = as_many (λ r. g.C.CellRunner.recorded r.value) (book_of c.args.self.now) c.self.inside.records.items run.run.records in
    subst (λ n. AreFit g.C.CellRunner.covers n (map (λ c'. fit_at c'.place (g.C.CellRunner.recorded c'.record.value) c'.word) c.in_ok-edited.edited.swept.changed.items)) (sym many)
    (subst (λ s. AreFit g.C.CellRunner.covers (length c.args.self.now.cells) (map (λ c'. fit_at c'.place (g.C.CellRunner.recorded c'.record.value) c'.word) s.changed.items)) (sym c.in_ok-edited.ensures.swept) c.in_ok-swept.ensures.fit)

pub invariant_of-self : goal.invariant_of-self
invariant_of-self g c =
    let run : IsKept g.C.CellRunner.covers (book_of c.args.self.now) (each_of g.C.CellRunner.recorded c.self.inside.records.items) c.self.inside.words.items =
    subst (λ (s : Sheet). IsKept g.C.CellRunner.covers (book_of s) (each_of g.C.CellRunner.recorded c.self.inside.records.items) c.self.inside.words.items) c.self.view_is (c.self.invariant).0 in
    let long : length (each_of g.C.CellRunner.recorded c.take_over-ran.new.records.items) ≡ length (each_of g.C.CellRunner.recorded c.self.inside.records.items) =
    length-map c.take_over-ran.new.records.items (λ r. g.C.CellRunner.recorded r.value) ∙ c.take_over-ran.ensures.count ∙ sym (length-map c.self.inside.records.items (λ r. g.C.CellRunner.recorded r.value)) in
    let kept : All (λ x. IsSnapshot (book_of c.args.self.now) x.place (g.C.CellRunner.kept_session x.version) (map g.C.CellRunner.change_of x.pending.items)) c.self.inside.snapshots.items =
    subst (λ (s : Sheet). All (λ x. IsSnapshot (book_of s) x.place (g.C.CellRunner.kept_session x.version) (map g.C.CellRunner.change_of x.pending.items)) c.self.inside.snapshots.items) c.self.view_is (c.self.invariant).1 in (
      subst (λ cs. IsKept g.C.CellRunner.covers (book_of (sheet cs (g.C.CellRunner.given c.args.world))) (each_of g.C.CellRunner.recorded c.take_over-ran.new.records.items) c.take_over-ran.new.words.items)
          (sym (ap (λ (s : Sheet). s.cells) c.self.view_is))
          (kept_over g.C.CellRunner.covers c.args.self.now (g.C.CellRunner.given c.args.world) _ (each_of g.C.CellRunner.recorded c.self.inside.records.items) (each_of g.C.CellRunner.recorded c.take_over-ran.new.records.items) c.self.inside.words.items c.take_over-ran.new.words.items run
          (subst (λ s. AreChanged (book_of c.args.self.now) (book_of (sheet c.args.self.now.cells (g.C.CellRunner.given c.args.world))) 0 0 (length c.args.self.now.cells) (map (λ c'. change_at c'.place (g.C.CellRunner.recorded c'.record.value)) s.changed.items)) (sym c.in_ok-edited.ensures.swept) c.in_ok-swept.ensures.changed) long c.take_over-ran.ensures.many c.take_over-ran.ensures.records c.take_over-ran.ensures.words),
      subst (λ (s : Sheet). All (λ x. IsSnapshot (book_of s) x.place (g.C.CellRunner.kept_session x.version) (map g.C.CellRunner.change_of x.pending.items)) c.take_over-ran.new.snapshots.items) (sym (ap (λ (t : Sheet). sheet t.cells (g.C.CellRunner.given c.args.world)) c.self.view_is))
          (c.take_over-ran.ensures.snapshots (book_of c.args.self.now) (book_of (sheet c.args.self.now.cells (g.C.CellRunner.given c.args.world))) (behind_none c.args.self.now (g.C.CellRunner.given c.args.world) run.run.distinct) (subst (λ s. All (λ n. IsNoted g.C.CellRunner.change_of g.C.CellRunner.kept_session (book_of c.args.self.now) (book_of (sheet c.args.self.now.cells (g.C.CellRunner.given c.args.world))) n.place n.now n.memo) s.noted.items) (sym c.in_ok-edited.ensures.swept) c.in_ok-swept.ensures.noted) (All-none (λ x. IsSnapshot (book_of c.args.self.now) x.place (g.C.CellRunner.kept_session x.version) (map g.C.CellRunner.change_of x.pending.items)) c.in_ok-edited.edited.fresh.items (ap (λ v. v.items) c.in_ok-edited.ensures.fresh ∙ c.new-fresh.ensures.items)) kept),
      (c.self.invariant).2,
    )

pub returns-clause-ran : goal.returns-clause-ran
returns-clause-ran g c =
    let inside : length c.self.inside.cells.items ≡ length c.args.self.now.cells = sym (length-map c.self.inside.cells.items (λ s. cell_of s.value)) ∙ ap (λ (s : Sheet). length s.cells) c.self.view_is in
    let places : c.take_over-ran.result.items ≡ map (λ c'. shifted shifts.Stays c'.place) c.in_ok-swept.swept.changed.items =
    ap (λ v. v.items) c.take_over-ran.ensures.ran ∙ c.in_ok-edited.ensures.places (length c.args.self.now.cells) (omega (arith, inside, c.self.inside.cells.ok, c.self.inside.cells.small)) c.in_ok-swept.ensures.fit ∙ ap (λ ps. ps ++ map (λ c'. shifted shifts.Stays c'.place) c.in_ok-swept.swept.changed.items) c.new-ran.ensures.items in
    subst (AreStale (book_of c.args.self.now) (book_of (sheet c.args.self.now.cells (g.C.CellRunner.given c.args.world)))) (sym places)
    (ran_over (λ c'. change_at c'.place (g.C.CellRunner.recorded c'.record.value)) c.in_ok-swept.swept.changed.items c.args.self.now (g.C.CellRunner.given c.args.world) c.in_ok-swept.ensures.changed)

pub returns-clause-counts : goal.returns-clause-counts
returns-clause-counts g c = c.swept_over.ensures.counts

pub returns-clause-err : goal.returns-clause-err
returns-clause-err g c = tt

pub returns-in_err-swept-clause-counts : goal.returns-in_err-swept-clause-counts
returns-in_err-swept-clause-counts g c = c.swept_over.ensures.counts

pub returns-in_err-edited-clause-counts : goal.returns-in_err-edited-clause-counts
returns-in_err-edited-clause-counts g c = c.swept_over.ensures.counts

pub take_over-ran-requires-clause-many : goal.take_over-ran-requires-clause-many
take_over-ran-requires-clause-many g c = ((c.self.invariant).0).many ∙ length-map c.self.inside.records.items (λ r. g.C.CellRunner.recorded r.value)

pub returns-clause-ok : goal.returns-clause-ok
returns-clause-ok g c = ap (λ (s : Sheet). sheet s.cells (g.C.CellRunner.given c.args.world)) c.self.view_is

pub returns-in_err-swept-clause-err : goal.returns-in_err-swept-clause-err
returns-in_err-swept-clause-err g c = at_err (c.args.self.now ≡ c.args.self.now) c.from_residual.result refl

pub returns-in_err-edited-clause-err : goal.returns-in_err-edited-clause-err
returns-in_err-edited-clause-err g c = at_err (c.args.self.now ≡ c.args.self.now) c.from_residual-in_err-edited.result refl
