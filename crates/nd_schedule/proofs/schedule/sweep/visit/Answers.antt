use Rattle.std.proofs.lemmas.Grind.{common_steps}
use Rattle.std.proofs.Common.{arith, ◌≡◌, ℕ, true, false, map, refl, sym, ap, subst, ◌∙◌}
use Rattle.nd_model.specs.Book.Book.{Book}
use Rattle.nd_model.specs.Book.Entries.{entry_at, record_at}
use Rattle.nd_change.specs.Change.{Fits}
use Rattle.nd_schedule.specs.Cells.Source.{cell_of}
use Rattle.nd_schedule.specs.Schedule.Sweep.{AreChanged, AreFit, change_at, fit_at}
use Rattle.nd_schedule.proofs.schedule.Sweeping.{record_there}
use Rattle.nd_schedule.proofs.schedule.Visiting
use Rattle.nd_schedule.proofs.schedule.sweep.visit.Goals as goal

pub returns-in_err-keep-clause-counts : goal.returns-in_err-keep-clause-counts
returns-in_err-keep-clause-counts g c = λ old new j before frame at h. Visiting.no_more old new c.args.i j _ _ _ frame _ _ _ at before _ h

pub returns-then-fits-clause-at : goal.returns-then-fits-clause-at
returns-then-fits-clause-at g c = λ old new j frame at.
    let is : g.C.CellRunner.recorded c.deref.result.now ≡ record_at old.world (entry_at old c.args.i) =
    ap g.C.CellRunner.recorded c.deref.ensures ∙ record_there (λ r. g.C.CellRunner.recorded r.value) old c.args.records.now c.index-records-i.result c.args.i (frame.run.records) (Visiting.lt old new c.args.i j _ _ _ frame _ _ _ at) c.index-records-i.is in
    let same : g.C.CellRunner.recorded c.deref-then-fits.result.now ≡ g.C.CellRunner.recorded c.deref.result.now = ap g.C.CellRunner.recorded (c.deref-then-fits.ensures ∙ sym c.deref.ensures) in
    Visiting.fits_at old new c.args.i j _ _ _ frame _ _ _ at (g.C.CellRunner.recorded c.deref-then-fits.result.now) _ (same ∙ is) (subst (Fits _) (sym same) (c.if-fits.ensures.0 refl)) c.in_ok-keep.ensures

pub returns-then-fits-clause-changed : goal.returns-then-fits-clause-changed
returns-then-fits-clause-changed g c = λ old new j from first frame at le at_first all.
    let is : g.C.CellRunner.recorded c.deref.result.now ≡ record_at old.world (entry_at old c.args.i) =
    ap g.C.CellRunner.recorded c.deref.ensures ∙ record_there (λ r. g.C.CellRunner.recorded r.value) old c.args.records.now c.index-records-i.result c.args.i (frame.run.records) (Visiting.lt old new c.args.i j _ _ _ frame _ _ _ at) c.index-records-i.is in
    Visiting.same_more old new c.args.i j _ _ _ frame _ _ _ at from first _ le at_first
    (Visiting.fits_holds old new c.args.i j _ _ _ frame _ _ _ at (g.C.CellRunner.recorded c.deref.result.now) is (c.if-fits.ensures.0 refl)) all

pub returns-then-fits-clause-counts : goal.returns-then-fits-clause-counts
returns-then-fits-clause-counts g c = λ old new j before frame at h. Visiting.no_more old new c.args.i j _ _ _ frame _ _ _ at before _ h

pub returns-in_err-come_to-clause-counts : goal.returns-in_err-come_to-clause-counts
returns-in_err-come_to-clause-counts g c = λ old new j before frame at h. Visiting.no_more old new c.args.i j _ _ _ frame _ _ _ at before _ h

pub come_to-requires-clause-at : goal.come_to-requires-clause-at
come_to-requires-clause-at g c = (
  c.requires.at.0,
  c.requires.at.1,
  c.requires.at.2,
  (c.requires.at.3).run,
  Visiting.place c.requires.at.0 c.requires.at.1 c.args.i c.requires.at.2 _ _ _ c.requires.at.3 _ _ _ c.requires.at.4,
  c.requires.at.4,
)

pub run_again-requires-clause-none : goal.run_again-requires-clause-none
run_again-requires-clause-none g c =
    let old : Book = c.requires.at.0 in
    let new : Book = c.requires.at.1 in
    let j : ℕ = c.requires.at.2 in
    Visiting.none_here old new c.args.i j _ _ _ c.requires.at.3 _ _ _ c.requires.at.4 (g.C.CellRunner.session_of c.come_to.new.state.session)
    (c.in_ok-come_to.ensures.at old new j (c.requires.at.3).run (Visiting.place old new c.args.i j _ _ _ c.requires.at.3 _ _ _ c.requires.at.4) c.requires.at.4).hand
    (cell_of c.deref-2.result.now) (Visiting.cell_there c.args.cells.now c.args.i c.index-cells-i.result c.deref-2.result.now c.requires.cell c.index-cells-i.is c.deref-2.ensures)

pub returns-clause-at : goal.returns-clause-at
returns-clause-at g c =
    Visiting.on_three c.run_again.result c.run_again.ensures.after c.run_again.ensures.follows c.run_again.ensures.since (λ after follows since old new j frame at.
    let is : g.C.CellRunner.recorded c.deref-3.result.now ≡ record_at old.world (entry_at old c.args.i) =
    ap g.C.CellRunner.recorded c.deref-3.ensures ∙ record_there (λ r. g.C.CellRunner.recorded r.value) old c.args.records.now c.index-records-i.result c.args.i (frame.run.records) (Visiting.lt old new c.args.i j _ _ _ frame _ _ _ at) c.index-records-i.is in
    let here = c.in_ok-come_to.ensures.at old new j frame.run (Visiting.place old new c.args.i j _ _ _ frame _ _ _ at) at in
    Visiting.run_at old new c.args.i j _ _ _ frame _ _ _ here (g.C.CellRunner.session_of c.come_to.new.state.session) here.hand
    (cell_of c.deref-2.result.now) (Visiting.cell_there c.args.cells.now c.args.i c.index-cells-i.result c.deref-2.result.now c.requires.cell c.index-cells-i.is c.deref-2.ensures)
    (g.C.CellRunner.recorded c.deref-3.result.now) _ _ _ is after follows since)

pub returns-clause-changed : goal.returns-clause-changed
returns-clause-changed g c =
    Visiting.on_ok c.run_again.result c.run_again.ensures.changed (λ grown old new j from first frame at le at_first all.
    let is : g.C.CellRunner.recorded c.deref.result.now ≡ record_at old.world (entry_at old c.args.i) =
    ap g.C.CellRunner.recorded c.deref.ensures ∙ record_there (λ r. g.C.CellRunner.recorded r.value) old c.args.records.now c.index-records-i.result c.args.i (frame.run.records) (Visiting.lt old new c.args.i j _ _ _ frame _ _ _ at) c.index-records-i.is in
    Visiting.run_changed old new c.args.i j _ _ _ frame _ _ _ at (g.C.CellRunner.session_of c.come_to.new.state.session)
    (c.in_ok-come_to.ensures.at old new j frame.run (Visiting.place old new c.args.i j _ _ _ frame _ _ _ at) at).hand
    (cell_of c.deref-2.result.now) (Visiting.cell_there c.args.cells.now c.args.i c.index-cells-i.result c.deref-2.result.now c.requires.cell c.index-cells-i.is c.deref-2.ensures)
    (g.C.CellRunner.recorded c.deref.result.now) is (λ f. absurd (let e : false ≡ true = c.if-fits.ensures.1 f in cc)) from first _ _ le at_first grown
    (subst (λ xs. AreChanged old new from first c.args.i (map (λ c'. change_at c'.place (g.C.CellRunner.recorded c'.record.value)) xs)) (sym c.come_to.ensures.changed) all))

pub returns-clause-counts : goal.returns-clause-counts
returns-clause-counts g c = λ old new j before frame at h.
    let is : g.C.CellRunner.recorded c.deref.result.now ≡ record_at old.world (entry_at old c.args.i) =
    ap g.C.CellRunner.recorded c.deref.ensures ∙ record_there (λ r. g.C.CellRunner.recorded r.value) old c.args.records.now c.index-records-i.result c.args.i (frame.run.records) (Visiting.lt old new c.args.i j _ _ _ frame _ _ _ at) c.index-records-i.is in
    Visiting.one_more old new c.args.i j _ _ _ frame _ _ _ at (g.C.CellRunner.recorded c.deref.result.now) before _ _ is (λ f. absurd (let e : false ≡ true = c.if-fits.ensures.1 f in cc)) h c.run_again.ensures.counted

pub returns-clause-covered : goal.returns-clause-covered
returns-clause-covered g c = grind (arith, common_steps)

pub returns-clause-fit : goal.returns-clause-fit
returns-clause-fit g c = Visiting.on_ok c.run_again.result c.run_again.ensures.fit (λ more n lt h.
    more n lt (subst (λ xs. AreFit g.C.CellRunner.covers n (map (λ c'. fit_at c'.place (g.C.CellRunner.recorded c'.record.value) c'.word) xs)) (sym c.come_to.ensures.changed) h))

pub bounds-records-i : goal.bounds-records-i
bounds-records-i g c = grind (arith, common_steps)

pub offset_bounds-records-i : goal.offset_bounds-records-i
offset_bounds-records-i g c = grind (arith, common_steps)

pub bounds-cells-i : goal.bounds-cells-i
bounds-cells-i g c = grind (arith, common_steps)

pub offset_bounds-cells-i : goal.offset_bounds-cells-i
offset_bounds-cells-i g c = grind (arith, common_steps)

pub run_again-requires-clause-fits : goal.run_again-requires-clause-fits
run_again-requires-clause-fits g c = grind (arith, common_steps)
