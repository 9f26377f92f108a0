use Rattle.std.proofs.Common.{◌≡◌, ◌++◌, length, map, sym, ap, subst, ◌∙◌, arith}
use Rattle.std.specs.Prelude.{slice_set}
use Rattle.std.proofs.lemmas.List.{length-map}
use Rattle.std.specs.List.{All}
use Rattle.nd_model.specs.Book.Notebook.{Sheet, book_of}
use Rattle.nd_schedule.specs.Cells.Source.{sheet, cell_of}
use Rattle.nd_schedule.specs.Schedule.Ran.{shifted}
use Rattle.nd_schedule.specs.Schedule.Snapshot.{IsNoted, IsSnapshot}
use Rattle.nd_schedule.specs.Schedule.Sweep.{AreChanged, AreFit, change_at, fit_at}
use Rattle.nd_schedule.specs.declared.schedule.ran.Shift.TheVariants as shifts
use Rattle.nd_schedule.proofs.schedule.Turning.{if_ok_more, if_ok_two}
use Rattle.std.proofs.lemmas.Grind.{common_steps}
use Rattle.nd_schedule.proofs.schedule.notebook.Schedule.swept_with.Goals as goal

pub returns-clause-changed : goal.returns-clause-changed
returns-clause-changed g c = if_ok_more c.tell_places.result c.tell_places.ensures.swept (λ e is.
    subst (λ s. AreChanged (book_of c.args.self.now) (book_of (sheet (slice_set c.args.self.now.cells c.args.at (cell_of c.args.source.now)) c.args.self.now.given)) c.args.at c.args.at (length c.args.self.now.cells) (map (λ c'. change_at c'.place (g.C.CellRunner.recorded c'.record.value)) s.changed.items)) (sym is) c.in_ok-swept.ensures.changed)

pub returns-clause-fit : goal.returns-clause-fit
returns-clause-fit g c = if_ok_more c.tell_places.result c.tell_places.ensures.swept (λ e is.
    subst (λ s. AreFit g.C.CellRunner.covers (length c.args.self.now.cells) (map (λ c'. fit_at c'.place (g.C.CellRunner.recorded c'.record.value) c'.word) s.changed.items)) (sym is) c.in_ok-swept.ensures.fit)

pub returns-clause-noted : goal.returns-clause-noted
returns-clause-noted g c = if_ok_more c.tell_places.result c.tell_places.ensures.swept (λ e is.
    subst (λ s. All (λ n. IsNoted g.C.CellRunner.change_of g.C.CellRunner.kept_session (book_of c.args.self.now) (book_of (sheet (slice_set c.args.self.now.cells c.args.at (cell_of c.args.source.now)) c.args.self.now.given)) n.place n.now n.memo) s.noted.items) (sym is) c.in_ok-swept.ensures.noted)

pub returns-clause-fresh : goal.returns-clause-fresh
returns-clause-fresh g c = if_ok_more c.tell_places.result c.tell_places.ensures.fresh (λ e is.
    subst (λ v. All (λ x. IsSnapshot (book_of c.args.self.now) x.place (g.C.CellRunner.kept_session x.version) (map g.C.CellRunner.change_of x.pending.items)) v.items) (sym is) c.in_ok-session.ensures.fresh)

pub returns-clause-ran : goal.returns-clause-ran
returns-clause-ran g c =
    let inside : length c.self.inside.cells.items ≡ length c.args.self.now.cells = sym (length-map c.self.inside.cells.items (λ s. cell_of s.value)) ∙ ap (λ (s : Sheet). length s.cells) c.self.view_is in
    if_ok_two c.tell_places.result c.tell_places.ensures.places c.tell_places.ensures.swept (λ e places is.
    places (length c.args.self.now.cells) (omega (arith, inside, c.self.inside.cells.ok, c.self.inside.cells.small)) c.in_ok-swept.ensures.fit
    ∙ ap (λ ps. ps ++ map (λ c'. shifted shifts.Stays c'.place) c.in_ok-swept.swept.changed.items) c.new-ran.ensures.items ∙ ap (λ s. map (λ c'. shifted shifts.Stays c'.place) s.changed.items) (sym is))

pub returns-clause-counts : goal.returns-clause-counts
returns-clause-counts g c = c.swept.ensures.counts

pub returns-in_err-swept-clause-counts : goal.returns-in_err-swept-clause-counts
returns-in_err-swept-clause-counts g c = c.swept.ensures.counts

pub returns-in_err-session-clause-counts : goal.returns-in_err-session-clause-counts
returns-in_err-session-clause-counts g c = grind (arith, common_steps)

pub swept-requires-clause-at : goal.swept-requires-clause-at
swept-requires-clause-at g c = grind (arith, common_steps)

pub swept-requires-clause-label : goal.swept-requires-clause-label
swept-requires-clause-label g c = grind (arith, common_steps)

pub swept-requires-clause-other : goal.swept-requires-clause-other
swept-requires-clause-other g c = grind (arith, common_steps)

pub swept-requires-clause-session : goal.swept-requires-clause-session
swept-requires-clause-session g c = grind (arith, common_steps)
