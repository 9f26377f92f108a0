use Rattle.std.proofs.Common.{◌≡◌, length, map, sym, ap, subst, ◌∙◌, arith}
use Rattle.std.proofs.lemmas.Grind.{common_steps}
use Rattle.std.proofs.lemmas.List.{length-map}
use Rattle.std.specs.List.{All}
use Rattle.nd_model.specs.Book.Book.{Book}
use Rattle.nd_model.specs.Book.Notebook.{Sheet, book_of}
use Rattle.nd_schedule.specs.Cells.Source.{cell_of, cells_of}
use Rattle.nd_schedule.specs.Cells.Shared.{each_of}
use Rattle.nd_schedule.specs.Schedule.Sweep.{AreChanged, AreFit, AreWords, IsKept, IsRun, change_at, fit_at}
use Rattle.nd_schedule.specs.Schedule.Snapshot.{IsNoted, IsSnapshot}
use Rattle.nd_schedule.proofs.schedule.Standing.{All-none, kept_by_records, kept_lists}
use Rattle.nd_schedule.proofs.schedule.Kept.{as_many}
use Rattle.nd_schedule.proofs.schedule.Visiting.{changed_to, frame_open}
use Rattle.nd_schedule.proofs.schedule.Turning.{ended, if_ok_more}
use Rattle.nd_schedule.proofs.schedule.notebook.Schedule.swept_behind.Goals as goal

pub sweep-done-requires-clause-order : goal.sweep-done-requires-clause-order
sweep-done-requires-clause-order g c =
    let inside : length c.self.inside.cells.items ≡ length c.args.self.now.cells = sym (length-map c.self.inside.cells.items (λ s. cell_of s.value)) ∙ ap (λ (s : Sheet). length s.cells) c.self.view_is in
    let whole : c.len.result ≡ length c.args.self.now.cells = omega (arith, inside, c.len.ensures) in
    omega (arith, whole, c.requires.order)

pub sweep-done-requires-clause-fits : goal.sweep-done-requires-clause-fits
sweep-done-requires-clause-fits g c = grind (arith, common_steps)

pub sweep-done-requires-clause-cells : goal.sweep-done-requires-clause-cells
sweep-done-requires-clause-cells g c =
    let e : length c.deref.result.now ≡ length c.self.inside.cells.items = ap length c.deref.ensures.value in
    omega (arith, e, c.len.ensures)

pub sweep-done-requires-clause-records : goal.sweep-done-requires-clause-records
sweep-done-requires-clause-records g c =
    let run : IsKept g.C.CellRunner.covers (book_of c.args.self.now) (each_of g.C.CellRunner.recorded c.self.inside.records.items) c.self.inside.words.items =
    subst (λ (s : Sheet). IsKept g.C.CellRunner.covers (book_of s) (each_of g.C.CellRunner.recorded c.self.inside.records.items) c.self.inside.words.items) c.self.view_is (c.self.invariant).0 in
    let many : length c.self.inside.records.items ≡ length c.args.self.now.cells = as_many (λ r. g.C.CellRunner.recorded r.value) (book_of c.args.self.now) c.self.inside.records.items run.run.records in
    let inside : length c.self.inside.cells.items ≡ length c.args.self.now.cells = sym (length-map c.self.inside.cells.items (λ s. cell_of s.value)) ∙ ap (λ (s : Sheet). length s.cells) c.self.view_is in
    let whole : c.len.result ≡ length c.args.self.now.cells = omega (arith, inside, c.len.ensures) in
    let e : length c.deref-2.result.now ≡ length c.self.inside.records.items = ap length c.deref-2.ensures.value in
    omega (arith, many, whole, e)

pub sweep-done-requires-clause-places : goal.sweep-done-requires-clause-places
sweep-done-requires-clause-places g c =
    let run : IsKept g.C.CellRunner.covers (book_of c.args.self.now) (each_of g.C.CellRunner.recorded c.self.inside.records.items) c.self.inside.words.items =
    subst (λ (s : Sheet). IsKept g.C.CellRunner.covers (book_of s) (each_of g.C.CellRunner.recorded c.self.inside.records.items) c.self.inside.words.items) c.self.view_is (c.self.invariant).0 in
    let many : length c.self.inside.records.items ≡ length c.args.self.now.cells = as_many (λ r. g.C.CellRunner.recorded r.value) (book_of c.args.self.now) c.self.inside.records.items run.run.records in
    let inside : length c.self.inside.cells.items ≡ length c.args.self.now.cells = sym (length-map c.self.inside.cells.items (λ s. cell_of s.value)) ∙ ap (λ (s : Sheet). length s.cells) c.self.view_is in
    let whole : c.len.result ≡ length c.args.self.now.cells = omega (arith, inside, c.len.ensures) in
    let e : length c.deref-3.result.now ≡ length c.self.inside.words.items = ap length c.deref-3.ensures.value in
    let f : length (each_of g.C.CellRunner.recorded c.self.inside.records.items) ≡ length c.self.inside.records.items = length-map c.self.inside.records.items (λ r. g.C.CellRunner.recorded r.value) in
    omega (arith, many, whole, e, f, run.many)

pub sweep-done-requires-clause-at : goal.sweep-done-requires-clause-at
sweep-done-requires-clause-at g c =
    let run : IsKept g.C.CellRunner.covers (book_of c.args.self.now) (each_of g.C.CellRunner.recorded c.self.inside.records.items) c.self.inside.words.items =
    subst (λ (s : Sheet). IsKept g.C.CellRunner.covers (book_of s) (each_of g.C.CellRunner.recorded c.self.inside.records.items) c.self.inside.words.items) c.self.view_is (c.self.invariant).0 in
    let inside : length c.self.inside.cells.items ≡ length c.args.self.now.cells = sym (length-map c.self.inside.cells.items (λ s. cell_of s.value)) ∙ ap (λ (s : Sheet). length s.cells) c.self.view_is in
    let whole : c.len.result ≡ length c.args.self.now.cells = omega (arith, inside, c.len.ensures) in
    let there : IsRun (book_of c.args.self.now) (each_of g.C.CellRunner.recorded c.deref-2.result.now) = record { records = ap (each_of g.C.CellRunner.recorded) c.deref-2.ensures.value ∙ run.run.records; distinct = run.run.distinct } in
    let cells : c.args.self.now.cells ≡ cells_of c.deref.result.now = sym (ap cells_of c.deref.ensures.value ∙ ap (λ (s : Sheet). s.cells) c.self.view_is) in
    (book_of c.args.self.now, c.requires.at.0, c.requires.at.1, (frame_open (book_of c.args.self.now) c.requires.at.0 c.args.i c.requires.at.1 c.len.result _ _ _ c.requires.at.2 cells there whole), c.requires.at.3)

pub sweep-done-requires-clause-words : goal.sweep-done-requires-clause-words
sweep-done-requires-clause-words g c =
    let run : IsKept g.C.CellRunner.covers (book_of c.args.self.now) (each_of g.C.CellRunner.recorded c.self.inside.records.items) c.self.inside.words.items =
    subst (λ (s : Sheet). IsKept g.C.CellRunner.covers (book_of s) (each_of g.C.CellRunner.recorded c.self.inside.records.items) c.self.inside.words.items) c.self.view_is (c.self.invariant).0 in
    subst (λ rs. AreWords g.C.CellRunner.covers c.deref-3.result.now (each_of g.C.CellRunner.recorded rs)) (sym c.deref-2.ensures.value)
    (subst (λ ws. AreWords g.C.CellRunner.covers ws (each_of g.C.CellRunner.recorded c.self.inside.records.items)) (sym c.deref-3.ensures.value) run.words)

pub sweep-done-requires-clause-covered : goal.sweep-done-requires-clause-covered
sweep-done-requires-clause-covered g c = c.requires.covered

pub sweep-done-requires-clause-kept : goal.sweep-done-requires-clause-kept
sweep-done-requires-clause-kept g c = λ b there.
    let old : Book = book_of c.args.self.now in
    let run : IsKept g.C.CellRunner.covers (book_of c.args.self.now) (each_of g.C.CellRunner.recorded c.self.inside.records.items) c.self.inside.words.items =
    subst (λ (s : Sheet). IsKept g.C.CellRunner.covers (book_of s) (each_of g.C.CellRunner.recorded c.self.inside.records.items) c.self.inside.words.items) c.self.view_is (c.self.invariant).0 in
    let kept : All (λ x. IsSnapshot old x.place (g.C.CellRunner.kept_session x.version) (map g.C.CellRunner.change_of x.pending.items)) c.self.inside.snapshots.items =
    subst (λ (s : Sheet). All (λ x. IsSnapshot (book_of s) x.place (g.C.CellRunner.kept_session x.version) (map g.C.CellRunner.change_of x.pending.items)) c.self.inside.snapshots.items) c.self.view_is (c.self.invariant).1 in
    kept_lists (λ x. IsSnapshot old x.place (g.C.CellRunner.kept_session x.version) (map g.C.CellRunner.change_of x.pending.items)) (λ x. IsSnapshot b x.place (g.C.CellRunner.kept_session x.version) (map g.C.CellRunner.change_of x.pending.items)) _ _ c.deref-4.ensures.value
    (λ x h. kept_by_records old b _ run.run (record { records = ap (each_of g.C.CellRunner.recorded) (sym c.deref-2.ensures.value) ∙ there.records; distinct = there.distinct }) _ _ _ h) kept

pub returns-clause-changed : goal.returns-clause-changed
returns-clause-changed g c =
    let run : IsKept g.C.CellRunner.covers (book_of c.args.self.now) (each_of g.C.CellRunner.recorded c.self.inside.records.items) c.self.inside.words.items =
    subst (λ (s : Sheet). IsKept g.C.CellRunner.covers (book_of s) (each_of g.C.CellRunner.recorded c.self.inside.records.items) c.self.inside.words.items) c.self.view_is (c.self.invariant).0 in
    let inside : length c.self.inside.cells.items ≡ length c.args.self.now.cells = sym (length-map c.self.inside.cells.items (λ s. cell_of s.value)) ∙ ap (λ (s : Sheet). length s.cells) c.self.view_is in
    let whole : c.len.result ≡ length c.args.self.now.cells = omega (arith, inside, c.len.ensures) in
    let there : IsRun (book_of c.args.self.now) (each_of g.C.CellRunner.recorded c.deref-2.result.now) = record { records = ap (each_of g.C.CellRunner.recorded) c.deref-2.ensures.value ∙ run.run.records; distinct = run.run.distinct } in
    let cells : c.args.self.now.cells ≡ cells_of c.deref.result.now = sym (ap cells_of c.deref.ensures.value ∙ ap (λ (s : Sheet). s.cells) c.self.view_is) in
    if_ok_more c.gathered.result c.gathered.ensures (λ s h new j from first ahead at le is all.
    subst (λ xs. AreChanged (book_of c.args.self.now) new from first (length c.args.self.now.cells) (map (λ c'. change_at c'.place (g.C.CellRunner.recorded c'.record.value)) xs)) (sym h.1)
    (changed_to (book_of c.args.self.now) new from first c.len.result (length c.args.self.now.cells) _ whole
    (ended c.sweep-done.result c.sweep-done.ensures.changed h.0 (book_of c.args.self.now) new j from first (frame_open (book_of c.args.self.now) new c.args.i j c.len.result _ _ _ ahead cells there whole) at le is all)))

pub returns-clause-fit : goal.returns-clause-fit
returns-clause-fit g c =
    let inside : length c.self.inside.cells.items ≡ length c.args.self.now.cells = sym (length-map c.self.inside.cells.items (λ s. cell_of s.value)) ∙ ap (λ (s : Sheet). length s.cells) c.self.view_is in
    let whole : c.len.result ≡ length c.args.self.now.cells = omega (arith, inside, c.len.ensures) in
    if_ok_more c.gathered.result c.gathered.ensures (λ s h all.
    subst (λ xs. AreFit g.C.CellRunner.covers (length c.args.self.now.cells) (map (λ c'. fit_at c'.place (g.C.CellRunner.recorded c'.record.value) c'.word) xs)) (sym h.1)
    (ended c.sweep-done.result c.sweep-done.ensures.fit h.0 (length c.args.self.now.cells) (omega (arith, whole)) all))

pub returns-clause-noted : goal.returns-clause-noted
returns-clause-noted g c =
    let run : IsKept g.C.CellRunner.covers (book_of c.args.self.now) (each_of g.C.CellRunner.recorded c.self.inside.records.items) c.self.inside.words.items =
    subst (λ (s : Sheet). IsKept g.C.CellRunner.covers (book_of s) (each_of g.C.CellRunner.recorded c.self.inside.records.items) c.self.inside.words.items) c.self.view_is (c.self.invariant).0 in
    let inside : length c.self.inside.cells.items ≡ length c.args.self.now.cells = sym (length-map c.self.inside.cells.items (λ s. cell_of s.value)) ∙ ap (λ (s : Sheet). length s.cells) c.self.view_is in
    let whole : c.len.result ≡ length c.args.self.now.cells = omega (arith, inside, c.len.ensures) in
    let there : IsRun (book_of c.args.self.now) (each_of g.C.CellRunner.recorded c.deref-2.result.now) = record { records = ap (each_of g.C.CellRunner.recorded) c.deref-2.ensures.value ∙ run.run.records; distinct = run.run.distinct } in
    let cells : c.args.self.now.cells ≡ cells_of c.deref.result.now = sym (ap cells_of c.deref.ensures.value ∙ ap (λ (s : Sheet). s.cells) c.self.view_is) in
    if_ok_more c.gathered.result c.gathered.ensures (λ s h new ahead at.
    subst (λ xs. All (λ n. IsNoted g.C.CellRunner.change_of g.C.CellRunner.kept_session (book_of c.args.self.now) new n.place n.now n.memo) xs) (sym h.2)
    (ended c.sweep-done.result c.sweep-done.ensures.noted h.0 (book_of c.args.self.now) new (frame_open (book_of c.args.self.now) new c.args.i c.args.now c.len.result _ _ _ ahead cells there whole) at
    (All-none (λ n. IsNoted g.C.CellRunner.change_of g.C.CellRunner.kept_session (book_of c.args.self.now) new n.place n.now n.memo) c.new-noted.result.items c.new-noted.ensures.items)))

pub returns-clause-counts : goal.returns-clause-counts
returns-clause-counts g c = λ new j before ahead at so_far.
    let run : IsKept g.C.CellRunner.covers (book_of c.args.self.now) (each_of g.C.CellRunner.recorded c.self.inside.records.items) c.self.inside.words.items =
    subst (λ (s : Sheet). IsKept g.C.CellRunner.covers (book_of s) (each_of g.C.CellRunner.recorded c.self.inside.records.items) c.self.inside.words.items) c.self.view_is (c.self.invariant).0 in
    let inside : length c.self.inside.cells.items ≡ length c.args.self.now.cells = sym (length-map c.self.inside.cells.items (λ s. cell_of s.value)) ∙ ap (λ (s : Sheet). length s.cells) c.self.view_is in
    let whole : c.len.result ≡ length c.args.self.now.cells = omega (arith, inside, c.len.ensures) in
    let there : IsRun (book_of c.args.self.now) (each_of g.C.CellRunner.recorded c.deref-2.result.now) = record { records = ap (each_of g.C.CellRunner.recorded) c.deref-2.ensures.value ∙ run.run.records; distinct = run.run.distinct } in
    let cells : c.args.self.now.cells ≡ cells_of c.deref.result.now = sym (ap cells_of c.deref.ensures.value ∙ ap (λ (s : Sheet). s.cells) c.self.view_is) in
    c.sweep-done.ensures.counts (book_of c.args.self.now) new j before (frame_open (book_of c.args.self.now) new c.args.i j c.len.result _ _ _ ahead cells there whole) at so_far
