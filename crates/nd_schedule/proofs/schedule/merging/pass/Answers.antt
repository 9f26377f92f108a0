use Rattle.std.proofs.lemmas.Grind.{common_steps}
use Rattle.std.proofs.Common.{◌≡◌, ◌<◌, IsTrue, true, false, length, refl, sym, ap, subst, ◌∙◌, arith}
use Rattle.nd_model.specs.Book.Entries.{entry_at, record_at}
use Rattle.nd_change.specs.Change.{Fits}
use Rattle.nd_schedule.specs.Cells.Source.{cell_of}
use Rattle.nd_schedule.proofs.schedule.Coming.{next_frame}
use Rattle.nd_schedule.proofs.schedule.Kept.{as_many}
use Rattle.nd_schedule.proofs.schedule.Sweeping
use Rattle.nd_schedule.proofs.schedule.Sweeping.{counts_same, record_there}
use Rattle.nd_schedule.proofs.schedule.Visiting
use Rattle.nd_schedule.proofs.schedule.merging.pass.Goals as goal

pub returns-then-are_apart-clause-at : goal.returns-then-are_apart-clause-at
returns-then-are_apart-clause-at g c = λ old new next same at.
    let lt : c.args.i < length old.cells = omega (arith, c.requires.record, as_many (λ r. g.C.CellRunner.recorded r.value) old c.args.records.now next.run.records) in
    let frame = next_frame old new c.args.i c.args.now _ (cell_of c.args.source.now) _ next lt same in
    Visiting.apart_at old new c.args.i c.args.now _ _ _ frame _ _ _ at
    (Visiting.is_apart old new c.args.i c.args.now _ _ _ frame _ _ _ at g.C.CellRunner.covers c.args.words.now c.index-words-i.result _ c.requires.words c.requires.covered
    (λ k h. c.if-are_apart.ensures refl k (subst (λ v. IsTrue (g.C.CellRunner.covers v k)) (sym c.index-words-i.is) h)))

pub returns-then-are_apart-clause-made : goal.returns-then-are_apart-clause-made
returns-then-are_apart-clause-made g c = λ old new next same at.
    let lt : c.args.i < length old.cells = omega (arith, c.requires.record, as_many (λ r. g.C.CellRunner.recorded r.value) old c.args.records.now next.run.records) in
    let frame = next_frame old new c.args.i c.args.now _ (cell_of c.args.source.now) _ next lt same in
    Sweeping.same_record old new c.args.i c.args.now lt next.run.distinct frame.beside
    (Visiting.apart_holds old new c.args.i c.args.now _ _ _ frame _ _ _ at
    (Visiting.is_apart old new c.args.i c.args.now _ _ _ frame _ _ _ at g.C.CellRunner.covers c.args.words.now c.index-words-i.result _ c.requires.words c.requires.covered
    (λ k h. c.if-are_apart.ensures refl k (subst (λ v. IsTrue (g.C.CellRunner.covers v k)) (sym c.index-words-i.is) h))))

pub returns-then-are_apart-clause-stale : goal.returns-then-are_apart-clause-stale
returns-then-are_apart-clause-stale g c = λ old new next same at.
    let lt : c.args.i < length old.cells = omega (arith, c.requires.record, as_many (λ r. g.C.CellRunner.recorded r.value) old c.args.records.now next.run.records) in
    let frame = next_frame old new c.args.i c.args.now _ (cell_of c.args.source.now) _ next lt same in
    Sweeping.fresh_now old new c.args.i c.args.now lt next.run.distinct frame.beside
    (Visiting.apart_holds old new c.args.i c.args.now _ _ _ frame _ _ _ at
    (Visiting.is_apart old new c.args.i c.args.now _ _ _ frame _ _ _ at g.C.CellRunner.covers c.args.words.now c.index-words-i.result _ c.requires.words c.requires.covered
    (λ k h. c.if-are_apart.ensures refl k (subst (λ v. IsTrue (g.C.CellRunner.covers v k)) (sym c.index-words-i.is) h))))

pub returns-then-are_apart-clause-counts : goal.returns-then-are_apart-clause-counts
returns-then-are_apart-clause-counts g c = λ old new before next same at so_far. counts_same old new c.args.now before _ next.there so_far

pub returns-in_err-keep-clause-counts : goal.returns-in_err-keep-clause-counts
returns-in_err-keep-clause-counts g c = λ old new before next same at so_far. counts_same old new c.args.now before _ next.there so_far

pub returns-then-fits-clause-at : goal.returns-then-fits-clause-at
returns-then-fits-clause-at g c = λ old new next same at.
    let lt : c.args.i < length old.cells = omega (arith, c.requires.record, as_many (λ r. g.C.CellRunner.recorded r.value) old c.args.records.now next.run.records) in
    let frame = next_frame old new c.args.i c.args.now _ (cell_of c.args.source.now) _ next lt same in
    let is : g.C.CellRunner.recorded c.deref.result.now ≡ record_at old.world (entry_at old c.args.i) =
    ap g.C.CellRunner.recorded c.deref.ensures ∙ record_there (λ r. g.C.CellRunner.recorded r.value) old c.args.records.now c.index-records-i.result c.args.i next.run.records lt c.index-records-i.is in
    let kept : g.C.CellRunner.recorded c.deref-then-fits.result.now ≡ g.C.CellRunner.recorded c.deref.result.now = ap g.C.CellRunner.recorded (c.deref-then-fits.ensures ∙ sym c.deref.ensures) in
    Visiting.fits_at old new c.args.i c.args.now _ _ _ frame _ _ _ at (g.C.CellRunner.recorded c.deref-then-fits.result.now) _ (kept ∙ is) (subst (Fits _) (sym kept) (c.if-fits.ensures.0 refl)) c.in_ok-keep.ensures

pub returns-then-fits-clause-made : goal.returns-then-fits-clause-made
returns-then-fits-clause-made g c = λ old new next same at.
    let lt : c.args.i < length old.cells = omega (arith, c.requires.record, as_many (λ r. g.C.CellRunner.recorded r.value) old c.args.records.now next.run.records) in
    let frame = next_frame old new c.args.i c.args.now _ (cell_of c.args.source.now) _ next lt same in
    let is : g.C.CellRunner.recorded c.deref.result.now ≡ record_at old.world (entry_at old c.args.i) =
    ap g.C.CellRunner.recorded c.deref.ensures ∙ record_there (λ r. g.C.CellRunner.recorded r.value) old c.args.records.now c.index-records-i.result c.args.i next.run.records lt c.index-records-i.is in
    Sweeping.same_record old new c.args.i c.args.now lt next.run.distinct frame.beside
    (Visiting.fits_holds old new c.args.i c.args.now _ _ _ frame _ _ _ at (g.C.CellRunner.recorded c.deref.result.now) is (c.if-fits.ensures.0 refl))

pub returns-then-fits-clause-stale : goal.returns-then-fits-clause-stale
returns-then-fits-clause-stale g c = λ old new next same at.
    let lt : c.args.i < length old.cells = omega (arith, c.requires.record, as_many (λ r. g.C.CellRunner.recorded r.value) old c.args.records.now next.run.records) in
    let frame = next_frame old new c.args.i c.args.now _ (cell_of c.args.source.now) _ next lt same in
    let is : g.C.CellRunner.recorded c.deref.result.now ≡ record_at old.world (entry_at old c.args.i) =
    ap g.C.CellRunner.recorded c.deref.ensures ∙ record_there (λ r. g.C.CellRunner.recorded r.value) old c.args.records.now c.index-records-i.result c.args.i next.run.records lt c.index-records-i.is in
    Sweeping.fresh_now old new c.args.i c.args.now lt next.run.distinct frame.beside
    (Visiting.fits_holds old new c.args.i c.args.now _ _ _ frame _ _ _ at (g.C.CellRunner.recorded c.deref.result.now) is (c.if-fits.ensures.0 refl))

pub returns-then-fits-clause-counts : goal.returns-then-fits-clause-counts
returns-then-fits-clause-counts g c = λ old new before next same at so_far. counts_same old new c.args.now before _ next.there so_far

pub run_there-requires-clause-at : goal.run_there-requires-clause-at
run_there-requires-clause-at g c = (c.requires.at.0, c.requires.at.1, c.requires.at.2, c.requires.at.4)

pub returns-clause-at : goal.returns-clause-at
returns-clause-at g c = λ old new next same at. c.in_ok-new.ensures.at old new next at

pub returns-clause-made : goal.returns-clause-made
returns-clause-made g c = λ old new next same at. c.in_ok-new.ensures.made old new next at

pub returns-clause-stale : goal.returns-clause-stale
returns-clause-stale g c = λ old new next same at.
    let lt : c.args.i < length old.cells = omega (arith, c.requires.record, as_many (λ r. g.C.CellRunner.recorded r.value) old c.args.records.now next.run.records) in
    let frame = next_frame old new c.args.i c.args.now _ (cell_of c.args.source.now) _ next lt same in
    let is : g.C.CellRunner.recorded c.deref.result.now ≡ record_at old.world (entry_at old c.args.i) =
    ap g.C.CellRunner.recorded c.deref.ensures ∙ record_there (λ r. g.C.CellRunner.recorded r.value) old c.args.records.now c.index-records-i.result c.args.i next.run.records lt c.index-records-i.is in
    Visiting.stale_now old new c.args.i c.args.now _ _ _ frame _ _ _ at (g.C.CellRunner.recorded c.deref.result.now) is (λ f. absurd (let e : false ≡ true = c.if-fits.ensures.1 f in cc))

pub returns-clause-counts : goal.returns-clause-counts
returns-clause-counts g c = λ old new before next same at so_far.
    let lt : c.args.i < length old.cells = omega (arith, c.requires.record, as_many (λ r. g.C.CellRunner.recorded r.value) old c.args.records.now next.run.records) in
    let frame = next_frame old new c.args.i c.args.now _ (cell_of c.args.source.now) _ next lt same in
    let is : g.C.CellRunner.recorded c.deref.result.now ≡ record_at old.world (entry_at old c.args.i) =
    ap g.C.CellRunner.recorded c.deref.ensures ∙ record_there (λ r. g.C.CellRunner.recorded r.value) old c.args.records.now c.index-records-i.result c.args.i next.run.records lt c.index-records-i.is in
    c.run_there.ensures.counts old new before next (Visiting.stale_now old new c.args.i c.args.now _ _ _ frame _ _ _ at (g.C.CellRunner.recorded c.deref.result.now) is (λ f. absurd (let e : false ≡ true = c.if-fits.ensures.1 f in cc))) so_far

pub returns-in_err-new-clause-counts : goal.returns-in_err-new-clause-counts
returns-in_err-new-clause-counts g c = λ old new before next same at so_far.
    let lt : c.args.i < length old.cells = omega (arith, c.requires.record, as_many (λ r. g.C.CellRunner.recorded r.value) old c.args.records.now next.run.records) in
    let frame = next_frame old new c.args.i c.args.now _ (cell_of c.args.source.now) _ next lt same in
    let is : g.C.CellRunner.recorded c.deref.result.now ≡ record_at old.world (entry_at old c.args.i) =
    ap g.C.CellRunner.recorded c.deref.ensures ∙ record_there (λ r. g.C.CellRunner.recorded r.value) old c.args.records.now c.index-records-i.result c.args.i next.run.records lt c.index-records-i.is in
    c.run_there.ensures.counts old new before next (Visiting.stale_now old new c.args.i c.args.now _ _ _ frame _ _ _ at (g.C.CellRunner.recorded c.deref.result.now) is (λ f. absurd (let e : false ≡ true = c.if-fits.ensures.1 f in cc))) so_far

pub returns-clause-worded : goal.returns-clause-worded
returns-clause-worded g c = grind (arith, common_steps)

pub returns-clause-covered : goal.returns-clause-covered
returns-clause-covered g c = grind (arith, common_steps)

pub bounds-words-i : goal.bounds-words-i
bounds-words-i g c = grind (arith, common_steps)

pub offset_bounds-words-i : goal.offset_bounds-words-i
offset_bounds-words-i g c = grind (arith, common_steps)

pub bounds-records-i : goal.bounds-records-i
bounds-records-i g c = grind (arith, common_steps)

pub offset_bounds-records-i : goal.offset_bounds-records-i
offset_bounds-records-i g c = grind (arith, common_steps)

pub run_there-requires-clause-record : goal.run_there-requires-clause-record
run_there-requires-clause-record g c = grind (arith, common_steps)
