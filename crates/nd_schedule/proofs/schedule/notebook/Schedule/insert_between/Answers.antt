use Rattle.nd_schedule.proofs.schedule.Turning.{at_err}
use Rattle.std.proofs.Common.{◌≡◌, refl, ◌<◌, ◌++◌, ◌||◌, ℕ, eqb, List, [], ◌∷◌, length, map, sym, ap, ap₂, subst, ◌∙◌, arith}
use Rattle.std.proofs.lemmas.Grind.{common_steps}
use Rattle.std.specs.Prelude.{IsTrue, insert}
use Rattle.std.proofs.lemmas.List.{length-map}
use Rattle.nd_model.specs.Book.Book.{Book, Cell, is_label}
use Rattle.nd_model.specs.Book.Book as book
use Rattle.nd_model.specs.Book.Notebook.{Sheet, book_of}
use Rattle.nd_model.specs.Book.Stale.{CountsStale}
use Rattle.nd_model.proofs.EditKept.{map-insert}
use Rattle.nd_schedule.specs.declared.cells.source.KeptCell.{KeptCell}
use Rattle.nd_schedule.specs.Cells.Labels.{AreUsed}
use Rattle.nd_schedule.specs.Cells.Source.{sheet, cell_of, cells_of}
use Rattle.nd_schedule.specs.Cells.Shared.{each_of}
use Rattle.std.specs.List.{All}
use Rattle.nd_schedule.specs.Schedule.Snapshot.{IsSnapshot}
use Rattle.nd_schedule.specs.Schedule.Ran.{AreStale, shifted}
use Rattle.nd_schedule.specs.declared.schedule.ran.Shift.TheVariants as shifts
use Rattle.nd_schedule.specs.Schedule.Sweep.{AreFit, AreWords, IsKept, change_at, fit_at}
use Rattle.nd_schedule.proofs.schedule.Runs.{ran_inserted}
use Rattle.nd_schedule.proofs.schedule.Kept.{as_many}
use Rattle.nd_schedule.proofs.schedule.Inserting
use Rattle.nd_schedule.proofs.cells.Used.{used_insert}
use Rattle.nd_schedule.proofs.schedule.Standing.{along}
use Rattle.nd_schedule.proofs.schedule.notebook.Schedule.insert_between.Goals as goal

pub install-requires-clause-fit : goal.install-requires-clause-fit
install-requires-clause-fit g c =
    let run : IsKept g.C.CellRunner.covers (book_of c.args.self.now) (each_of g.C.CellRunner.recorded c.self.inside.records.items) c.self.inside.words.items =
    subst (λ (s : Sheet). IsKept g.C.CellRunner.covers (book_of s) (each_of g.C.CellRunner.recorded c.self.inside.records.items) c.self.inside.words.items) c.self.view_is (c.self.invariant).0 in
    let many : length c.self.inside.records.items ≡ length c.args.self.now.cells = as_many (λ r. g.C.CellRunner.recorded r.value) (book_of c.args.self.now) c.self.inside.records.items run.run.records in
    let same2 : length c.make_places.new.records.items ≡ length c.self.inside.records.items = ap length c.make_places.ensures.same_records in
    subst (λ n. AreFit g.C.CellRunner.covers n (map (λ c'. fit_at c'.place (g.C.CellRunner.recorded c'.record.value) c'.word) c.in_ok-added.added.grown.swept.changed.items)) (sym (same2 ∙ many)) c.in_ok-added.ensures.fit

pub put_one-requires-clause-at_cell : goal.put_one-requires-clause-at_cell
put_one-requires-clause-at_cell g c =
    let inside : length c.self.inside.cells.items ≡ length c.args.self.now.cells = sym (length-map c.self.inside.cells.items (λ s. cell_of s.value)) ∙ ap (λ (s : Sheet). length s.cells) c.self.view_is in
    let same1 : length c.make_places.new.cells.items ≡ length c.self.inside.cells.items = ap length c.make_places.ensures.same_cells in
    omega (arith, same1, inside, c.requires.at)

pub put_one-requires-clause-at_record : goal.put_one-requires-clause-at_record
put_one-requires-clause-at_record g c =
    let run : IsKept g.C.CellRunner.covers (book_of c.args.self.now) (each_of g.C.CellRunner.recorded c.self.inside.records.items) c.self.inside.words.items =
    subst (λ (s : Sheet). IsKept g.C.CellRunner.covers (book_of s) (each_of g.C.CellRunner.recorded c.self.inside.records.items) c.self.inside.words.items) c.self.view_is (c.self.invariant).0 in
    let many : length c.self.inside.records.items ≡ length c.args.self.now.cells = as_many (λ r. g.C.CellRunner.recorded r.value) (book_of c.args.self.now) c.self.inside.records.items run.run.records in
    let same2 : length c.make_places.new.records.items ≡ length c.self.inside.records.items = ap length c.make_places.ensures.same_records in
    omega (arith, many, same2, c.install.ensures.count, c.requires.at)

pub put_one-requires-clause-at_word : goal.put_one-requires-clause-at_word
put_one-requires-clause-at_word g c =
    let run : IsKept g.C.CellRunner.covers (book_of c.args.self.now) (each_of g.C.CellRunner.recorded c.self.inside.records.items) c.self.inside.words.items =
    subst (λ (s : Sheet). IsKept g.C.CellRunner.covers (book_of s) (each_of g.C.CellRunner.recorded c.self.inside.records.items) c.self.inside.words.items) c.self.view_is (c.self.invariant).0 in
    let many : length c.self.inside.records.items ≡ length c.args.self.now.cells = as_many (λ r. g.C.CellRunner.recorded r.value) (book_of c.args.self.now) c.self.inside.records.items run.run.records in
    let same3 : length c.make_places.new.words.items ≡ length c.self.inside.words.items = ap length c.make_places.ensures.same_words in
    let viewed : length (each_of g.C.CellRunner.recorded c.self.inside.records.items) ≡ length c.self.inside.records.items = length-map c.self.inside.records.items (λ r. g.C.CellRunner.recorded r.value) in
    omega (arith, many, same3, viewed, run.many, c.install.ensures.many, c.requires.at)

pub put_one-requires-clause-cells : goal.put_one-requires-clause-cells
put_one-requires-clause-cells g c =
    let same1 : length c.make_places.new.cells.items ≡ length c.self.inside.cells.items = ap length c.make_places.ensures.same_cells in
    omega (arith, same1, c.in-Ok.ensures.cells)

pub put_one-requires-clause-records : goal.put_one-requires-clause-records
put_one-requires-clause-records g c =
    let same2 : length c.make_places.new.records.items ≡ length c.self.inside.records.items = ap length c.make_places.ensures.same_records in
    omega (arith, same2, c.install.ensures.count, c.install.ensures.records_room, c.in-Ok.ensures.records)

pub put_one-requires-clause-words : goal.put_one-requires-clause-words
put_one-requires-clause-words g c =
    let same3 : length c.make_places.new.words.items ≡ length c.self.inside.words.items = ap length c.make_places.ensures.same_words in
    omega (arith, same3, c.install.ensures.many, c.install.ensures.words_room, c.in-Ok.ensures.words)

pub returns-clause-ok : goal.returns-clause-ok
returns-clause-ok g c =
    let cell_in : c.put_one.new.cells.items ≡ insert c.self.inside.cells.items c.args.at c.args.cell = c.put_one.ensures.cells ∙ ap (λ xs. insert xs c.args.at c.args.cell) c.make_places.ensures.same_cells in
    ap₂ sheet (ap cells_of cell_in ∙ map-insert (λ s. cell_of s.value) c.self.inside.cells.items c.args.at c.args.cell ∙ ap (λ (cs : List Cell). insert cs c.args.at (cell_of c.args.cell.value)) (ap (λ (s : Sheet). s.cells) c.self.view_is)) (ap (λ (s : Sheet). s.given) c.self.view_is)

pub returns-clause-counts : goal.returns-clause-counts
returns-clause-counts g c =
    subst (λ (x : Cell). CountsStale (book_of c.args.self.now) (book_of (sheet (insert c.args.self.now.cells c.args.at x) c.args.self.now.given)) c.args.meter.now c.run_between.new.meter) (ap cell_of c.deref.ensures) c.run_between.ensures.counts

pub returns-in-Err-clause-counts : goal.returns-in-Err-clause-counts
returns-in-Err-clause-counts g c =
    subst (λ (x : Cell). CountsStale (book_of c.args.self.now) (book_of (sheet (insert c.args.self.now.cells c.args.at x) c.args.self.now.given)) c.args.meter.now c.run_between.new.meter) (ap cell_of c.deref.ensures) c.run_between.ensures.counts

pub returns-in_err-added-clause-counts : goal.returns-in_err-added-clause-counts
returns-in_err-added-clause-counts g c =
    subst (λ (x : Cell). CountsStale (book_of c.args.self.now) (book_of (sheet (insert c.args.self.now.cells c.args.at x) c.args.self.now.given)) c.args.meter.now c.run_between.new.meter) (ap cell_of c.deref.ensures) c.run_between.ensures.counts

pub invariant_of-self : goal.invariant_of-self
invariant_of-self g c =
    subst (λ ws. IsKept g.C.CellRunner.covers (book_of (sheet (cells_of c.make_places.new.cells.items) (g.C.CellRunner.given c.self.inside.world))) (each_of g.C.CellRunner.recorded c.make_places.new.records.items) ws × All (λ x. IsSnapshot (book_of (sheet (cells_of c.make_places.new.cells.items) (g.C.CellRunner.given c.self.inside.world))) x.place (g.C.CellRunner.kept_session x.version) (map g.C.CellRunner.change_of x.pending.items)) c.self.inside.snapshots.items × AreUsed c.self.inside.least (cells_of c.make_places.new.cells.items)) (sym c.make_places.ensures.same_words)
    (subst (λ rs. IsKept g.C.CellRunner.covers (book_of (sheet (cells_of c.make_places.new.cells.items) (g.C.CellRunner.given c.self.inside.world))) (each_of g.C.CellRunner.recorded rs) c.self.inside.words.items × All (λ x. IsSnapshot (book_of (sheet (cells_of c.make_places.new.cells.items) (g.C.CellRunner.given c.self.inside.world))) x.place (g.C.CellRunner.kept_session x.version) (map g.C.CellRunner.change_of x.pending.items)) c.self.inside.snapshots.items × AreUsed c.self.inside.least (cells_of c.make_places.new.cells.items)) (sym c.make_places.ensures.same_records)
    (subst (λ xs. IsKept g.C.CellRunner.covers (book_of (sheet (cells_of xs) (g.C.CellRunner.given c.self.inside.world))) (each_of g.C.CellRunner.recorded c.self.inside.records.items) c.self.inside.words.items × All (λ x. IsSnapshot (book_of (sheet (cells_of xs) (g.C.CellRunner.given c.self.inside.world))) x.place (g.C.CellRunner.kept_session x.version) (map g.C.CellRunner.change_of x.pending.items)) c.self.inside.snapshots.items × AreUsed c.self.inside.least (cells_of xs)) (sym c.make_places.ensures.same_cells) c.self.invariant))

pub invariant_of-self-2 : goal.invariant_of-self-2
invariant_of-self-2 g c =
    let run : IsKept g.C.CellRunner.covers (book_of c.args.self.now) (each_of g.C.CellRunner.recorded c.self.inside.records.items) c.self.inside.words.items =
    subst (λ (s : Sheet). IsKept g.C.CellRunner.covers (book_of s) (each_of g.C.CellRunner.recorded c.self.inside.records.items) c.self.inside.words.items) c.self.view_is (c.self.invariant).0 in
    let many : length c.self.inside.records.items ≡ length c.args.self.now.cells = as_many (λ r. g.C.CellRunner.recorded r.value) (book_of c.args.self.now) c.self.inside.records.items run.run.records in
    let same3 : length c.make_places.new.words.items ≡ length c.self.inside.words.items = ap length c.make_places.ensures.same_words in
    let cell_in : c.put_one.new.cells.items ≡ insert c.self.inside.cells.items c.args.at c.args.cell = c.put_one.ensures.cells ∙ ap (λ xs. insert xs c.args.at c.args.cell) c.make_places.ensures.same_cells in
    let record_in : c.put_one.new.records.items ≡ insert c.install.new.records.items c.args.at c.in_ok-added.added.grown.new.record = c.put_one.ensures.records in
    let word_in : c.put_one.new.words.items ≡ insert c.install.new.words.items c.args.at c.in_ok-added.added.grown.new.word = c.put_one.ensures.words in
    let label : c.deref.result.now.label ≡ book.fresh_label c.args.self.now.cells = ap (λ (s : KeptCell). s.label) c.deref.ensures ∙ c.requires.label in
    let rooms : each_of g.C.CellRunner.recorded c.make_places.new.records.items ≡ each_of g.C.CellRunner.recorded c.self.inside.records.items = ap (each_of g.C.CellRunner.recorded) c.make_places.ensures.same_records in
    let long : length (each_of g.C.CellRunner.recorded c.install.new.records.items) ≡ length (each_of g.C.CellRunner.recorded c.make_places.new.records.items) =
    length-map c.install.new.records.items (λ r. g.C.CellRunner.recorded r.value) ∙ c.install.ensures.count ∙ sym (length-map c.make_places.new.records.items (λ r. g.C.CellRunner.recorded r.value)) in
    let as_words : length c.install.new.words.items ≡ length (each_of g.C.CellRunner.recorded c.install.new.records.items) = c.install.ensures.many ∙ same3 ∙ run.many ∙ sym (ap length rooms) ∙ sym long in
    let words_now = c.install.ensures.words (subst (λ ws. AreWords g.C.CellRunner.covers ws (each_of g.C.CellRunner.recorded c.make_places.new.records.items)) (sym c.make_places.ensures.same_words) (subst (AreWords g.C.CellRunner.covers c.self.inside.words.items) (sym rooms) run.words)) in
    let now : List Cell = c.args.self.now.cells in
    let next : (n : ℕ) → n < c.args.next → IsTrue (is_label n now || eqb n c.deref.result.now.label) =
    λ n lt. ap (λ (l : ℕ). is_label n now || eqb n l) (ap (λ (s : KeptCell). s.label) c.deref.ensures) ∙ c.requires.next n lt in
    let kept : All (λ x. IsSnapshot (book_of c.args.self.now) x.place (g.C.CellRunner.kept_session x.version) (map g.C.CellRunner.change_of x.pending.items)) c.self.inside.snapshots.items =
    subst (λ (s : Sheet). All (λ x. IsSnapshot (book_of s) x.place (g.C.CellRunner.kept_session x.version) (map g.C.CellRunner.change_of x.pending.items)) c.self.inside.snapshots.items) c.self.view_is (c.self.invariant).1 in
    along (λ (s : Sheet). IsKept g.C.CellRunner.covers (book_of s) (each_of g.C.CellRunner.recorded c.put_one.new.records.items) c.put_one.new.words.items)
    (λ (s : Sheet). All (λ x. IsSnapshot (book_of s) x.place (g.C.CellRunner.kept_session x.version) (map g.C.CellRunner.change_of x.pending.items)) c.carry.new.snapshots.items) (AreUsed c.args.next) _ _ (ap₂ sheet (ap cells_of cell_in ∙ map-insert (λ s. cell_of s.value) c.self.inside.cells.items c.args.at c.args.cell ∙ ap₂ (λ (cs : List Cell) (x : Cell). insert cs c.args.at x) (ap (λ (s : Sheet). s.cells) c.self.view_is) (ap cell_of (sym c.deref.ensures))) (ap (λ (s : Sheet). s.given) c.self.view_is))
    (subst (λ rs. IsKept g.C.CellRunner.covers (book_of (sheet (insert c.args.self.now.cells c.args.at (cell_of c.deref.result.now)) c.args.self.now.given)) rs c.put_one.new.words.items)
    (sym (ap (each_of g.C.CellRunner.recorded) record_in ∙ map-insert (λ r. g.C.CellRunner.recorded r.value) c.install.new.records.items c.args.at c.in_ok-added.added.grown.new.record))
    (subst (λ ws. IsKept g.C.CellRunner.covers (book_of (sheet (insert c.args.self.now.cells c.args.at (cell_of c.deref.result.now)) c.args.self.now.given)) (insert (each_of g.C.CellRunner.recorded c.install.new.records.items) c.args.at (g.C.CellRunner.recorded c.in_ok-added.added.grown.new.record.value)) ws) (sym word_in)
    (Inserting.kept_with c.args.self.now c.args.at (cell_of c.deref.result.now) c.requires.at run.run.distinct label _ (each_of g.C.CellRunner.recorded c.make_places.new.records.items) (each_of g.C.CellRunner.recorded c.install.new.records.items) (g.C.CellRunner.recorded c.in_ok-added.added.grown.new.record.value)
    (rooms ∙ run.run.records) c.in_ok-added.ensures.changed long c.install.ensures.records c.in_ok-added.ensures.made g.C.CellRunner.covers c.install.new.words.items c.in_ok-added.added.grown.new.word as_words words_now c.in_ok-added.ensures.worded)))
    (c.carry.ensures (book_of c.args.self.now) (book_of (sheet (insert c.args.self.now.cells c.args.at (cell_of c.deref.result.now)) c.args.self.now.given)) (Inserting.is_behind c.args.self.now c.args.at (cell_of c.deref.result.now) c.requires.at run.run.distinct label) c.in_ok-added.ensures.noted c.in_ok-added.ensures.fresh kept)
    (used_insert c.args.next c.args.self.now.cells c.args.at (cell_of c.deref.result.now) next)

pub install-requires-clause-many : goal.install-requires-clause-many
install-requires-clause-many g c = grind (arith, common_steps)

pub returns-clause-err : goal.returns-clause-err
returns-clause-err g c = tt

pub returns-in-Err-clause-err : goal.returns-in-Err-clause-err
returns-in-Err-clause-err g c = grind (arith, common_steps)

pub returns-in-Err-clause-ok : goal.returns-in-Err-clause-ok
returns-in-Err-clause-ok g c = tt

pub returns-in_err-added-clause-err : goal.returns-in_err-added-clause-err
returns-in_err-added-clause-err g c = at_err (c.args.self.now ≡ c.args.self.now) c.from_residual-in_err-added.result refl

pub run_between-requires-clause-at : goal.run_between-requires-clause-at
run_between-requires-clause-at g c = c.requires.at

pub run_between-requires-clause-label : goal.run_between-requires-clause-label
run_between-requires-clause-label g c = grind (arith, common_steps)

pub returns-clause-ran : goal.returns-clause-ran
returns-clause-ran g c =
    let run : IsKept g.C.CellRunner.covers (book_of c.args.self.now) (each_of g.C.CellRunner.recorded c.self.inside.records.items) c.self.inside.words.items =
    subst (λ (s : Sheet). IsKept g.C.CellRunner.covers (book_of s) (each_of g.C.CellRunner.recorded c.self.inside.records.items) c.self.inside.words.items) c.self.view_is (c.self.invariant).0 in
    let inside : length c.self.inside.cells.items ≡ length c.args.self.now.cells = sym (length-map c.self.inside.cells.items (λ s. cell_of s.value)) ∙ ap (λ (s : Sheet). length s.cells) c.self.view_is in
    let places : c.make_places.new.ran.items ≡ (c.args.at ∷ []) ++ map (λ c'. shifted shifts.Later c'.place) c.in_ok-added.added.grown.swept.changed.items =
    c.in-Ok.ensures.places (length c.args.self.now.cells) (omega (arith, inside, c.self.inside.cells.ok, c.self.inside.cells.small)) (subst (λ xs. AreFit g.C.CellRunner.covers (length c.args.self.now.cells) (map (λ c'. fit_at c'.place (g.C.CellRunner.recorded c'.record.value) c'.word) xs)) (sym c.deref-2.ensures.value) c.in_ok-added.ensures.fit) ∙ ap₂ (λ ps xs. ps ++ map (λ c'. shifted shifts.Later c'.place) xs) (c.in_ok-push.ensures.items ∙ ap (λ ps. ps ++ c.args.at ∷ []) c.new-ran.ensures.items) c.deref-2.ensures.value in
    let label : (cell_of c.deref.result.now).label ≡ book.fresh_label c.args.self.now.cells = ap (λ (s : KeptCell). s.label) c.deref.ensures ∙ c.requires.label in
    subst (λ (x : Cell). AreStale (book_of c.args.self.now) (book_of (sheet (insert c.args.self.now.cells c.args.at x) c.args.self.now.given)) c.make_places.new.ran.items) (ap cell_of c.deref.ensures)
    (subst (AreStale (book_of c.args.self.now) (book_of (sheet (insert c.args.self.now.cells c.args.at (cell_of c.deref.result.now)) c.args.self.now.given))) (sym places)
    (ran_inserted (λ c'. change_at c'.place (g.C.CellRunner.recorded c'.record.value)) c.in_ok-added.added.grown.swept.changed.items c.args.self.now c.args.at (cell_of c.deref.result.now) c.requires.at run.run.distinct label c.in_ok-added.ensures.changed))
