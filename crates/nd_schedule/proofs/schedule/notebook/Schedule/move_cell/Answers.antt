use Rattle.std.proofs.lemmas.Grind.{common_steps}
use Rattle.std.proofs.Common.{◌≡◌, ℕ, ◌<◌, ◌++◌, inl, inr, List, length, map, get_or, refl, sym, ap, ap₂, subst, ◌∙◌, arith}
use Rattle.std.specs.Prelude.{insert, remove}
use Rattle.std.proofs.lemmas.List.{length-map}
use Rattle.nd_model.specs.Book.Book.{Book, Move, no_cell}
use Rattle.nd_model.specs.Book.Entries.{records_of}
use Rattle.nd_model.specs.Book.Notebook.{Sheet, book_of, edited_sheet, world_in}
use Rattle.nd_schedule.specs.Cells.Labels.{AreUsed}
use Rattle.nd_schedule.specs.Cells.Source.{sheet, cell_of, cells_of}
use Rattle.nd_schedule.specs.Cells.Shared.{each_of}
use Rattle.nd_schedule.specs.Schedule.Ran.{AreStale, place_made, shifted}
use Rattle.nd_schedule.specs.declared.schedule.ran.Shift.TheVariants as shifts
use Rattle.std.proofs.lemmas.Bool.{cases_lt}
use Rattle.nd_schedule.proofs.schedule.Sweeping.{counts_stale, none_yet}
use Rattle.nd_schedule.proofs.schedule.Runs.{ran_down, ran_nothing, ran_up}
use Rattle.nd_schedule.specs.Schedule.Sweep.{AreFit, IsKept, IsMoving, change_at, fit_at}
use Rattle.std.specs.List.{All}
use Rattle.nd_schedule.specs.Schedule.Snapshot.{IsNoted, IsSnapshot}
use Rattle.nd_schedule.proofs.schedule.Kept.{as_many}
use Rattle.nd_schedule.proofs.schedule.Turning.{at_err, behind, moving, turned_map, turned_same}
use Rattle.nd_schedule.proofs.cells.Used.{used_moved}
use Rattle.nd_schedule.proofs.schedule.Standing.{along}
use Rattle.nd_schedule.proofs.schedule.notebook.Schedule.move_cell.Goals as goal

pub take_moved-noted-requires-clause-between : goal.take_moved-noted-requires-clause-between
take_moved-noted-requires-clause-between g c =
    let many : length c.self.inside.records.items ≡ length (cells_of c.self.inside.cells.items) = as_many (λ r. g.C.CellRunner.recorded r.value) (book_of (sheet (cells_of c.self.inside.cells.items) (g.C.CellRunner.given c.self.inside.world))) c.self.inside.records.items ((c.self.invariant).0).run.records in
    subst (λ n. AreFit g.C.CellRunner.covers n (map (λ c'. fit_at c'.place (g.C.CellRunner.recorded c'.record.value) c'.word) c.in_ok-moved.moved.between.items)) (sym (many ∙ ap (λ (s : Sheet). length s.cells) c.self.view_is)) (c.in_ok-moved.ensures.gathered).fit_between

pub take_moved-noted-requires-clause-behind : goal.take_moved-noted-requires-clause-behind
take_moved-noted-requires-clause-behind g c =
    let many : length c.self.inside.records.items ≡ length (cells_of c.self.inside.cells.items) = as_many (λ r. g.C.CellRunner.recorded r.value) (book_of (sheet (cells_of c.self.inside.cells.items) (g.C.CellRunner.given c.self.inside.world))) c.self.inside.records.items ((c.self.invariant).0).run.records in
    subst (λ n. AreFit g.C.CellRunner.covers n (map (λ c'. fit_at c'.place (g.C.CellRunner.recorded c'.record.value) c'.word) c.in_ok-moved.moved.behind.items)) (sym (many ∙ ap (λ (s : Sheet). length s.cells) c.self.view_is)) (c.in_ok-moved.ensures.gathered).fit_behind

pub take_moved-noted-requires-clause-from : goal.take_moved-noted-requires-clause-from
take_moved-noted-requires-clause-from g c =
    let many : length c.self.inside.records.items ≡ length (cells_of c.self.inside.cells.items) = as_many (λ r. g.C.CellRunner.recorded r.value) (book_of (sheet (cells_of c.self.inside.cells.items) (g.C.CellRunner.given c.self.inside.world))) c.self.inside.records.items ((c.self.invariant).0).run.records in
    subst (λ n. c.args.from < n) (sym (many ∙ ap (λ (s : Sheet). length s.cells) c.self.view_is)) c.requires.from

pub take_moved-noted-requires-clause-to : goal.take_moved-noted-requires-clause-to
take_moved-noted-requires-clause-to g c =
    let many : length c.self.inside.records.items ≡ length (cells_of c.self.inside.cells.items) = as_many (λ r. g.C.CellRunner.recorded r.value) (book_of (sheet (cells_of c.self.inside.cells.items) (g.C.CellRunner.given c.self.inside.world))) c.self.inside.records.items ((c.self.invariant).0).run.records in
    subst (λ n. c.args.to < n) (sym (many ∙ ap (λ (s : Sheet). length s.cells) c.self.view_is)) c.requires.to

pub take_moved-noted-requires-clause-many : goal.take_moved-noted-requires-clause-many
take_moved-noted-requires-clause-many g c = ((c.self.invariant).0).many ∙ length-map c.self.inside.records.items (λ r. g.C.CellRunner.recorded r.value)

pub take_moved-noted-requires-clause-worded : goal.take_moved-noted-requires-clause-worded
take_moved-noted-requires-clause-worded g c = (c.in_ok-moved.ensures.gathered).worded

pub invariant_of-self : goal.invariant_of-self
invariant_of-self g c =
    let s : Sheet = c.args.self.now in
    let run : IsKept g.C.CellRunner.covers (book_of s) (each_of g.C.CellRunner.recorded c.self.inside.records.items) c.self.inside.words.items =
    subst (λ (s : Sheet). IsKept g.C.CellRunner.covers (book_of s) (each_of g.C.CellRunner.recorded c.self.inside.records.items) c.self.inside.words.items) c.self.view_is (c.self.invariant).0 in
    let inside : length c.self.inside.cells.items ≡ length s.cells = sym (length-map c.self.inside.cells.items (λ s. cell_of s.value)) ∙ ap (λ (s : Sheet). length s.cells) c.self.view_is in
    let cells : cells_of c.move_item.new.list.items ≡ insert (remove s.cells c.args.from) c.args.to (get_or s.cells c.args.from no_cell) =
    turned_map (λ s. cell_of s.value) c.self.inside.cells.items c.move_item.new.list.items c.args.from c.args.to no_cell (subst (λ n. c.args.from < n) (sym inside) c.requires.from) c.move_item.ensures
    ∙ ap (λ cs. insert (remove cs c.args.from) c.args.to (get_or cs c.args.from no_cell)) (ap (λ (s : Sheet). s.cells) c.self.view_is) in
    let old : Book = book_of s in
    let new : Book = book_of (edited_sheet (Move c.args.from c.args.to) s) in
    let way : IsMoving old new c.args.from c.args.to s.cells (each_of g.C.CellRunner.recorded c.self.inside.records.items) (world_in s.given) =
    moving s c.args.from c.args.to _ _ _ refl run.run refl c.requires.from c.requires.to in
    let now : sheet (cells_of c.move_item.new.list.items) (g.C.CellRunner.given c.self.inside.world) ≡ edited_sheet (Move c.args.from c.args.to) s = ap₂ sheet cells (ap (λ (s : Sheet). s.given) c.self.view_is) in
    let used : AreUsed c.self.inside.least s.cells = subst (λ (s : Sheet). AreUsed c.self.inside.least s.cells) c.self.view_is (c.self.invariant).2 in
    let kept : All (λ x. IsSnapshot old x.place (g.C.CellRunner.kept_session x.version) (map g.C.CellRunner.change_of x.pending.items)) c.self.inside.snapshots.items =
    subst (λ (s : Sheet). All (λ x. IsSnapshot (book_of s) x.place (g.C.CellRunner.kept_session x.version) (map g.C.CellRunner.change_of x.pending.items)) c.self.inside.snapshots.items) c.self.view_is (c.self.invariant).1 in
    along (λ (s : Sheet). IsKept g.C.CellRunner.covers (book_of s) (each_of g.C.CellRunner.recorded c.take_moved-noted.new.records.items) c.take_moved-noted.new.words.items)
    (λ (s : Sheet). All (λ x. IsSnapshot (book_of s) x.place (g.C.CellRunner.kept_session x.version) (map g.C.CellRunner.change_of x.pending.items)) c.carry.new.snapshots.items) (AreUsed c.self.inside.least) _ _ now
    (c.take_moved-noted.ensures.kept old new _ _ way (c.in_ok-moved.ensures.gathered).moved (c.in_ok-moved.ensures.gathered).made run.words)
    (c.carry.ensures old new (behind old new c.args.from c.args.to _ _ _ way c.min-first.result (omega (arith, c.min-first.ensures)) (omega (arith, c.min-first.ensures)))
    (subst (λ v. All (λ n. IsNoted g.C.CellRunner.change_of g.C.CellRunner.kept_session old new n.place n.now n.memo) v.items) (sym c.take_moved-noted.ensures.noted) c.in_ok-moved.ensures.noted) c.in_ok-session.ensures.fresh kept)
    (used_moved c.self.inside.least s.cells c.args.from c.args.to used)

pub returns-clause-ok : goal.returns-clause-ok
returns-clause-ok g c =
    let inside : length c.self.inside.cells.items ≡ length c.args.self.now.cells = sym (length-map c.self.inside.cells.items (λ s. cell_of s.value)) ∙ ap (λ (s : Sheet). length s.cells) c.self.view_is in
    let cells : cells_of c.move_item.new.list.items ≡ insert (remove c.args.self.now.cells c.args.from) c.args.to (get_or c.args.self.now.cells c.args.from no_cell) =
    turned_map (λ s. cell_of s.value) c.self.inside.cells.items c.move_item.new.list.items c.args.from c.args.to no_cell (omega (arith, inside, c.requires.from)) c.move_item.ensures
    ∙ ap (λ cs. insert (remove cs c.args.from) c.args.to (get_or cs c.args.from no_cell)) (ap (λ (s : Sheet). s.cells) c.self.view_is) in
    ap₂ sheet cells (ap (λ (s : Sheet). s.given) c.self.view_is)

pub move_item-requires-clause-from : goal.move_item-requires-clause-from
move_item-requires-clause-from g c = grind (arith, common_steps)

pub move_item-requires-clause-to : goal.move_item-requires-clause-to
move_item-requires-clause-to g c = grind (arith, common_steps)

pub returns-clause-counts : goal.returns-clause-counts
returns-clause-counts g c = c.swept_moved.ensures.counts

pub returns-clause-err : goal.returns-clause-err
returns-clause-err g c = tt

pub returns-in_err-moved-clause-counts : goal.returns-in_err-moved-clause-counts
returns-in_err-moved-clause-counts g c = c.swept_moved.ensures.counts

pub returns-in_err-moved-clause-err : goal.returns-in_err-moved-clause-err
returns-in_err-moved-clause-err g c = at_err (c.args.self.now ≡ c.args.self.now) c.from_residual-in_err-moved.result refl

pub returns-in_err-session-clause-counts : goal.returns-in_err-session-clause-counts
returns-in_err-session-clause-counts g c =
    let old : Book = book_of c.args.self.now in
    let new : Book = book_of (edited_sheet (Move c.args.from c.args.to) c.args.self.now) in
    counts_stale old new 0 c.args.meter.now c.args.meter.now (none_yet old new 0 c.args.meter.now)

pub returns-in_err-session-clause-err : goal.returns-in_err-session-clause-err
returns-in_err-session-clause-err g c = at_err (c.args.self.now ≡ c.args.self.now) c.from_residual.result refl

pub returns-then-from-to-clause-counts : goal.returns-then-from-to-clause-counts
returns-then-from-to-clause-counts g c =
    let old : Book = book_of c.args.self.now in
    let new : Book = book_of (edited_sheet (Move c.args.from c.args.to) c.args.self.now) in
    counts_stale old new 0 c.args.meter.now c.args.meter.now (none_yet old new 0 c.args.meter.now)

pub returns-then-from-to-clause-err : goal.returns-then-from-to-clause-err
returns-then-from-to-clause-err g c = tt

pub returns-then-from-to-clause-ok : goal.returns-then-from-to-clause-ok
returns-then-from-to-clause-ok g c =
    ap (λ cs. sheet cs c.args.self.now.given) (turned_same c.args.self.now.cells c.args.from no_cell c.requires.from ∙ ap (λ n. insert (remove c.args.self.now.cells c.args.from) n (get_or c.args.self.now.cells c.args.from no_cell)) c.if-from-to.true)

pub swept_moved-requires-clause-from : goal.swept_moved-requires-clause-from
swept_moved-requires-clause-from g c = c.requires.from

pub swept_moved-requires-clause-other : goal.swept_moved-requires-clause-other
swept_moved-requires-clause-other g c = c.if-from-to.false

pub swept_moved-requires-clause-session : goal.swept_moved-requires-clause-session
swept_moved-requires-clause-session g c = grind (arith, common_steps)

pub swept_moved-requires-clause-to : goal.swept_moved-requires-clause-to
swept_moved-requires-clause-to g c = c.requires.to

pub note_ran-requires-clause-between : goal.note_ran-requires-clause-between
note_ran-requires-clause-between g c =
    let inside : length c.self.inside.cells.items ≡ length c.args.self.now.cells = sym (length-map c.self.inside.cells.items (λ s. cell_of s.value)) ∙ ap (λ (s : Sheet). length s.cells) c.self.view_is in (
      length c.args.self.now.cells,
      omega (arith, inside, c.self.inside.cells.ok, c.self.inside.cells.small),
      (c.in_ok-moved.ensures.gathered).fit_between,
    )

pub note_ran-requires-clause-behind : goal.note_ran-requires-clause-behind
note_ran-requires-clause-behind g c =
    let inside : length c.self.inside.cells.items ≡ length c.args.self.now.cells = sym (length-map c.self.inside.cells.items (λ s. cell_of s.value)) ∙ ap (λ (s : Sheet). length s.cells) c.self.view_is in (
      length c.args.self.now.cells,
      omega (arith, inside, c.self.inside.cells.ok, c.self.inside.cells.small),
      (c.in_ok-moved.ensures.gathered).fit_behind,
    )

pub returns-then-from-to-clause-ran : goal.returns-then-from-to-clause-ran
returns-then-from-to-clause-ran g c =
    let run : IsKept g.C.CellRunner.covers (book_of c.args.self.now) (each_of g.C.CellRunner.recorded c.self.inside.records.items) c.self.inside.words.items =
    subst (λ (s : Sheet). IsKept g.C.CellRunner.covers (book_of s) (each_of g.C.CellRunner.recorded c.self.inside.records.items) c.self.inside.words.items) c.self.view_is (c.self.invariant).0 in
    subst (λ (s : Sheet). AreStale (book_of c.args.self.now) (book_of s) c.new-ran.result.items)
    (ap (λ cs. sheet cs c.args.self.now.given) (turned_same c.args.self.now.cells c.args.from no_cell c.requires.from ∙ ap (λ n. insert (remove c.args.self.now.cells c.args.from) n (get_or c.args.self.now.cells c.args.from no_cell)) c.if-from-to.true))
    (subst (AreStale (book_of c.args.self.now) (book_of c.args.self.now)) (sym c.new-ran.ensures.items) (ran_nothing (book_of c.args.self.now) run.run.distinct))

pub returns-clause-ran : goal.returns-clause-ran
returns-clause-ran g c =
    let run : IsKept g.C.CellRunner.covers (book_of c.args.self.now) (each_of g.C.CellRunner.recorded c.self.inside.records.items) c.self.inside.words.items =
    subst (λ (s : Sheet). IsKept g.C.CellRunner.covers (book_of s) (each_of g.C.CellRunner.recorded c.self.inside.records.items) c.self.inside.words.items) c.self.view_is (c.self.invariant).0 in
    let old : Book = book_of c.args.self.now in
    let new : Book = book_of (edited_sheet (Move c.args.from c.args.to) c.args.self.now) in
    let way : IsMoving old new c.args.from c.args.to c.args.self.now.cells (records_of old) (world_in c.args.self.now.given) =
    moving c.args.self.now c.args.from c.args.to _ _ _ refl (record { records = refl; distinct = run.run.distinct }) refl c.requires.from c.requires.to in
    elim (cases_lt c.args.from c.args.to) [
      | inl down ↦ subst (AreStale old new) (sym (c.in-Ok.ensures.down down ∙ ap (λ (ps : List ℕ). ((ps ++ map (λ c'. shifted shifts.Earlier c'.place) c.in_ok-moved.moved.between.items) ++ place_made c.in_ok-moved.moved.made c.args.to) ++ map (λ c'. shifted shifts.Stays c'.place) c.in_ok-moved.moved.behind.items) c.new-ran.ensures.items))
          (ran_down (λ c'. change_at c'.place (g.C.CellRunner.recorded c'.record.value)) c.in_ok-moved.moved.between.items c.in_ok-moved.moved.behind.items c.in_ok-moved.moved.made old new c.args.from c.args.to _ _ _ way (c.in_ok-moved.ensures.gathered).moved (c.in_ok-moved.ensures.gathered).stale down)
      | inr up ↦ subst (AreStale old new) (sym (c.in-Ok.ensures.up up ∙ ap (λ (ps : List ℕ). ((ps ++ place_made c.in_ok-moved.moved.made c.args.to) ++ map (λ c'. shifted shifts.Later c'.place) c.in_ok-moved.moved.between.items) ++ map (λ c'. shifted shifts.Stays c'.place) c.in_ok-moved.moved.behind.items) c.new-ran.ensures.items))
          (ran_up (λ c'. change_at c'.place (g.C.CellRunner.recorded c'.record.value)) c.in_ok-moved.moved.between.items c.in_ok-moved.moved.behind.items c.in_ok-moved.moved.made old new c.args.from c.args.to _ _ _ way (c.in_ok-moved.ensures.gathered).moved (c.in_ok-moved.ensures.gathered).stale (omega (arith, up, c.if-from-to.false)))
    ]
