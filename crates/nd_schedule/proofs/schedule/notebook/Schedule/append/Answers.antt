use Rattle.std.proofs.Common.{◌≡◌, ℕ, ◌++◌, ◌||◌, eqb, [], ◌∷◌, length, sym, ap, ap₂, subst, ◌∙◌, arith}
use Rattle.std.specs.Prelude.{insert}
use Rattle.std.proofs.lemmas.List.{length-map}
use Rattle.nd_model.specs.Book.Book.{Book, is_label}
use Rattle.nd_model.specs.Book.Book as book
use Rattle.nd_model.specs.Book.Entries.{entry_at, record_at}
use Rattle.nd_model.specs.Book.Notebook.{Sheet, book_of}
use Rattle.nd_model.specs.Book.Stale.{CountsStale}
use Rattle.nd_schedule.specs.declared.cells.source.KeptCell.{KeptCell}
use Rattle.nd_schedule.specs.Cells.Source.{sheet, cell_of, cells_of}
use Rattle.nd_schedule.specs.Schedule.Snapshot.{StandsBefore}
use Rattle.nd_schedule.specs.Schedule.Ran.{AreStale}
use Rattle.nd_schedule.proofs.schedule.Runs.{ran_appended}
use Rattle.nd_schedule.proofs.schedule.Kept.{as_many}
use Rattle.nd_schedule.proofs.schedule.Inserting.{stands_last}
use Rattle.nd_schedule.proofs.schedule.Sweeping.{counts_stale, none_yet}
use Rattle.nd_schedule.proofs.schedule.Turning.{at_err}
use Rattle.nd_schedule.specs.Cells.Shared.{each_of}
use Rattle.nd_schedule.specs.Schedule.Sweep.{IsKept}
use Rattle.nd_schedule.proofs.schedule.notebook.Schedule.append.Goals as goal

pub put_last-requires-clause-made : goal.put_last-requires-clause-made
put_last-requires-clause-made g c =
    subst (λ (x : KeptCell). g.C.CellRunner.recorded c.in_ok-new.new.record.value ≡ record_at (book_of c.front_end.new.self).world (entry_at (book_of (sheet (insert c.front_end.new.self.cells (length c.front_end.new.self.cells) (cell_of x)) c.front_end.new.self.given)) (length c.front_end.new.self.cells))) c.deref.ensures c.in_ok-new.ensures.made

pub put_last-requires-clause-label : goal.put_last-requires-clause-label
put_last-requires-clause-label g c = c.requires.label ∙ ap (λ (s : Sheet). book.fresh_label s.cells) (sym c.front_end.ensures.same)

pub put_last-requires-clause-next : goal.put_last-requires-clause-next
put_last-requires-clause-next g c = λ n lt. ap (λ (s : Sheet). is_label n s.cells || eqb n c.args.cell.value.label) c.front_end.ensures.same ∙ c.requires.next n lt

pub put_last-requires-clause-worded : goal.put_last-requires-clause-worded
put_last-requires-clause-worded g c = c.in_ok-new.ensures.worded

pub run_end-requires-clause-label : goal.run_end-requires-clause-label
run_end-requires-clause-label g c = ap (λ (x : KeptCell). x.label) c.deref.ensures ∙ c.requires.label ∙ ap (λ (s : Sheet). book.fresh_label s.cells) (sym c.front_end.ensures.same)

pub run_end-requires-clause-session : goal.run_end-requires-clause-session
run_end-requires-clause-session g c =
    subst (λ (s : Sheet). StandsBefore (book_of s) (length s.cells) (g.C.CellRunner.session_of c.in_ok-session.session)) (sym c.front_end.ensures.same) c.in_ok-session.ensures.session

pub invariant_of-self : goal.invariant_of-self
invariant_of-self g c =
    let s : Sheet = c.front_end.new.self in
    let u : Sheet = sheet (cells_of c.self-2.inside.cells.items) (g.C.CellRunner.given c.self-2.inside.world) in
    let many : length c.self-2.inside.records.items ≡ length u.cells = as_many (λ r. g.C.CellRunner.recorded r.value) (book_of u) c.self-2.inside.records.items ((c.self-2.invariant).0).run.records in
    let long : length c.deref-2.result.now ≡ length u.cells = ap length c.deref-2.ensures.value ∙ many in (
      (c.self-2.invariant).0,
      c.keep_end.ensures (book_of u) (omega (arith, long))
          (stands_last s u (cell_of c.deref.result.now) (length c.deref-2.result.now) (g.C.CellRunner.session_of c.run_end.new.session)
          (c.self-2.view_is ∙ c.in_ok-put_last.ensures.ok ∙ ap (λ (x : KeptCell). sheet (insert s.cells (length s.cells) (cell_of x)) s.given) (sym c.deref.ensures)) long c.in_ok-new.ensures.session)
          (c.self-2.invariant).1,
      (c.self-2.invariant).2,
    )

pub returns-clause-counts : goal.returns-clause-counts
returns-clause-counts g c =
    subst (λ (s : Sheet). CountsStale (book_of s) (book_of (sheet (insert s.cells (length s.cells) (cell_of c.args.cell.value)) s.given)) c.args.meter.now c.run_end.new.meter) c.front_end.ensures.same
    (subst (λ (x : KeptCell). CountsStale (book_of c.front_end.new.self) (book_of (sheet (insert c.front_end.new.self.cells (length c.front_end.new.self.cells) (cell_of x)) c.front_end.new.self.given)) c.args.meter.now c.run_end.new.meter) c.deref.ensures c.run_end.ensures.counts)

pub returns-in_err-new-clause-counts : goal.returns-in_err-new-clause-counts
returns-in_err-new-clause-counts g c =
    subst (λ (s : Sheet). CountsStale (book_of s) (book_of (sheet (insert s.cells (length s.cells) (cell_of c.args.cell.value)) s.given)) c.args.meter.now c.run_end.new.meter) c.front_end.ensures.same
    (subst (λ (x : KeptCell). CountsStale (book_of c.front_end.new.self) (book_of (sheet (insert c.front_end.new.self.cells (length c.front_end.new.self.cells) (cell_of x)) c.front_end.new.self.given)) c.args.meter.now c.run_end.new.meter) c.deref.ensures c.run_end.ensures.counts)

pub returns-in_err-put_last-clause-counts : goal.returns-in_err-put_last-clause-counts
returns-in_err-put_last-clause-counts g c =
    subst (λ (s : Sheet). CountsStale (book_of s) (book_of (sheet (insert s.cells (length s.cells) (cell_of c.args.cell.value)) s.given)) c.args.meter.now c.run_end.new.meter) c.front_end.ensures.same
    (subst (λ (x : KeptCell). CountsStale (book_of c.front_end.new.self) (book_of (sheet (insert c.front_end.new.self.cells (length c.front_end.new.self.cells) (cell_of x)) c.front_end.new.self.given)) c.args.meter.now c.run_end.new.meter) c.deref.ensures c.run_end.ensures.counts)

pub returns-in_err-session-clause-counts : goal.returns-in_err-session-clause-counts
returns-in_err-session-clause-counts g c =
    let old : Book = book_of c.args.self.now in
    let new : Book = book_of (sheet (insert c.args.self.now.cells (length c.args.self.now.cells) (cell_of c.args.cell.value)) c.args.self.now.given) in
    counts_stale old new 0 c.args.meter.now c.args.meter.now (none_yet old new 0 c.args.meter.now)

pub returns-clause-err : goal.returns-clause-err
returns-clause-err g c = tt

pub returns-in_err-new-clause-err : goal.returns-in_err-new-clause-err
returns-in_err-new-clause-err g c = at_err (c.front_end.new.self ≡ c.args.self.now) c.from_residual-in_err-new.result c.front_end.ensures.same

pub returns-in_err-put_last-clause-err : goal.returns-in_err-put_last-clause-err
returns-in_err-put_last-clause-err g c = at_err (c.put_last.new.self ≡ c.args.self.now) c.from_residual-in_err-put_last.result (c.in_err-put_last.ensures.err ∙ c.front_end.ensures.same)

pub returns-in_err-session-clause-err : goal.returns-in_err-session-clause-err
returns-in_err-session-clause-err g c = at_err (c.front_end.new.self ≡ c.args.self.now) c.from_residual-in_err-session.result c.front_end.ensures.same

pub returns-clause-ok : goal.returns-clause-ok
returns-clause-ok g c = c.self-2.view_is ∙ c.in_ok-put_last.ensures.ok ∙ ap (λ (s : Sheet). sheet (insert s.cells (length s.cells) (cell_of c.args.cell.value)) s.given) c.front_end.ensures.same

pub returns-clause-ran : goal.returns-clause-ran
returns-clause-ran g c =
    let run : IsKept g.C.CellRunner.covers (book_of c.args.self.now) (each_of g.C.CellRunner.recorded c.self.inside.records.items) c.self.inside.words.items =
    subst (λ (s : Sheet). IsKept g.C.CellRunner.covers (book_of s) (each_of g.C.CellRunner.recorded c.self.inside.records.items) c.self.inside.words.items) c.self.view_is (c.self.invariant).0 in
    let inside : length c.self.inside.cells.items ≡ length c.args.self.now.cells = sym (length-map c.self.inside.cells.items (λ s. cell_of s.value)) ∙ ap (λ (s : Sheet). length s.cells) c.self.view_is in
    let place : c.len.result ≡ length c.args.self.now.cells = omega (arith, c.len.ensures, inside) in
    let places : c.push.new.self.items ≡ length c.args.self.now.cells ∷ [] = c.in_ok-push.ensures.items ∙ ap₂ (λ ps (n : ℕ). ps ++ n ∷ []) c.new-ran.ensures.items place in
    subst (AreStale (book_of c.args.self.now) (book_of (sheet (insert c.args.self.now.cells (length c.args.self.now.cells) (cell_of c.args.cell.value)) c.args.self.now.given))) (sym places)
    (ran_appended c.args.self.now (cell_of c.args.cell.value) run.run.distinct c.requires.label)
