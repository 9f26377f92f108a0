use Rattle.std.proofs.Common.{◌≡◌, length, map, refl, sym, ap, subst, ◌∙◌, arith}
use Rattle.std.specs.List.{All}
use Rattle.std.proofs.lemmas.List.{length-map}
use Rattle.nd_model.specs.Book.Renaming.{AreDistinct}
use Rattle.nd_model.specs.Book.Book.{Book, labels_of}
use Rattle.nd_model.specs.Book.Notebook.{Sheet, book_of, world_in}
use Rattle.nd_schedule.specs.Cells.Source.{sheet, cell_of, cells_of}
use Rattle.nd_schedule.specs.Cells.Shared.{each_of}
use Rattle.nd_schedule.specs.Schedule.Merge.{AreMerged, IsMerge}
use Rattle.nd_schedule.specs.Schedule.Snapshot.{IsNoted, IsSnapshot}
use Rattle.nd_schedule.specs.Schedule.Sweep.{AreWords, IsKept}
use Rattle.nd_schedule.proofs.schedule.Kept.{as_many}
use Rattle.nd_schedule.proofs.schedule.Standing.{All-none, kept_by_records, kept_lists}
use Rattle.nd_schedule.proofs.schedule.Sweeping.{counts_stale, none_yet}
use Rattle.nd_schedule.proofs.schedule.Turning.{ended, if_ok_more}
use Rattle.nd_schedule.proofs.schedule.notebook.Schedule.merge.Goals as goal

pub copied-requires-clause-within : goal.copied-requires-clause-within
copied-requires-clause-within g c =
    let run : IsKept g.C.CellRunner.covers (book_of c.args.self.now) (each_of g.C.CellRunner.recorded c.self.inside.records.items) c.self.inside.words.items =
    subst (λ (s : Sheet). IsKept g.C.CellRunner.covers (book_of s) (each_of g.C.CellRunner.recorded c.self.inside.records.items) c.self.inside.words.items) c.self.view_is (c.self.invariant).0 in
    let many : length c.self.inside.records.items ≡ length c.args.self.now.cells = as_many (λ r. g.C.CellRunner.recorded r.value) (book_of c.args.self.now) c.self.inside.records.items run.run.records in
    omega (arith, many, c.requires.within, ap length c.deref.ensures.value)

pub returns-in_err-merged-clause-counts : goal.returns-in_err-merged-clause-counts
returns-in_err-merged-clause-counts g c =
    let old : Book = book_of c.args.self.now in
    let new : Book = book_of (sheet c.args.draft.now (g.C.CellRunner.given c.args.world.now)) in
    counts_stale old new 0 c.args.meter.now c.args.meter.now (none_yet old new 0 c.args.meter.now)

pub merge_from-done-requires-clause-at : goal.merge_from-done-requires-clause-at
merge_from-done-requires-clause-at g c =
    let run : IsKept g.C.CellRunner.covers (book_of c.args.self.now) (each_of g.C.CellRunner.recorded c.self.inside.records.items) c.self.inside.words.items =
    subst (λ (s : Sheet). IsKept g.C.CellRunner.covers (book_of s) (each_of g.C.CellRunner.recorded c.self.inside.records.items) c.self.inside.words.items) c.self.view_is (c.self.invariant).0 in
    let old : Book = book_of c.args.self.now in
    let new : Book = book_of (sheet c.args.draft.now (g.C.CellRunner.given c.args.world.now)) in
    let merge : IsMerge old new (cells_of c.deref-2.result.now) (cells_of c.deref-5.result.now) (each_of g.C.CellRunner.recorded c.deref-3.result.now) (world_in (g.C.CellRunner.given c.args.world.now)) = record {
      cells = sym (ap cells_of c.deref-2.ensures.value ∙ ap (λ (s : Sheet). s.cells) c.self.view_is);
      now = sym (ap cells_of c.deref-5.ensures.value ∙ c.draft.view_is);
      run = record { records = ap (each_of g.C.CellRunner.recorded) c.deref-3.ensures.value ∙ run.run.records; distinct = run.run.distinct };
      distinct = subst (λ cs. AreDistinct (labels_of cs)) c.draft.view_is (c.draft.invariant).0;
      world = refl;
    } in
    (old, new, merge, c.requires.at)

pub merge_from-done-requires-clause-words : goal.merge_from-done-requires-clause-words
merge_from-done-requires-clause-words g c =
    let run : IsKept g.C.CellRunner.covers (book_of c.args.self.now) (each_of g.C.CellRunner.recorded c.self.inside.records.items) c.self.inside.words.items =
    subst (λ (s : Sheet). IsKept g.C.CellRunner.covers (book_of s) (each_of g.C.CellRunner.recorded c.self.inside.records.items) c.self.inside.words.items) c.self.view_is (c.self.invariant).0 in
    subst (λ rs. AreWords g.C.CellRunner.covers c.deref-4.result.now (each_of g.C.CellRunner.recorded rs)) (sym c.deref-3.ensures.value)
    (subst (λ ws. AreWords g.C.CellRunner.covers ws (each_of g.C.CellRunner.recorded c.self.inside.records.items)) (sym c.deref-4.ensures.value) run.words)

pub merge_from-done-requires-clause-covered : goal.merge_from-done-requires-clause-covered
merge_from-done-requires-clause-covered g c = c.requires.covered

pub merge_from-done-requires-clause-cells : goal.merge_from-done-requires-clause-cells
merge_from-done-requires-clause-cells g c =
    let run : IsKept g.C.CellRunner.covers (book_of c.args.self.now) (each_of g.C.CellRunner.recorded c.self.inside.records.items) c.self.inside.words.items =
    subst (λ (s : Sheet). IsKept g.C.CellRunner.covers (book_of s) (each_of g.C.CellRunner.recorded c.self.inside.records.items) c.self.inside.words.items) c.self.view_is (c.self.invariant).0 in
    let many : length c.self.inside.records.items ≡ length c.args.self.now.cells = as_many (λ r. g.C.CellRunner.recorded r.value) (book_of c.args.self.now) c.self.inside.records.items run.run.records in
    let inside : length c.self.inside.cells.items ≡ length c.args.self.now.cells = sym (length-map c.self.inside.cells.items (λ s. cell_of s.value)) ∙ ap (λ (s : Sheet). length s.cells) c.self.view_is in
    omega (arith, many, inside, ap length c.deref-2.ensures.value, ap length c.deref-3.ensures.value)

pub merge_from-done-requires-clause-places : goal.merge_from-done-requires-clause-places
merge_from-done-requires-clause-places g c =
    let run : IsKept g.C.CellRunner.covers (book_of c.args.self.now) (each_of g.C.CellRunner.recorded c.self.inside.records.items) c.self.inside.words.items =
    subst (λ (s : Sheet). IsKept g.C.CellRunner.covers (book_of s) (each_of g.C.CellRunner.recorded c.self.inside.records.items) c.self.inside.words.items) c.self.view_is (c.self.invariant).0 in
    let many : length c.self.inside.records.items ≡ length c.args.self.now.cells = as_many (λ r. g.C.CellRunner.recorded r.value) (book_of c.args.self.now) c.self.inside.records.items run.run.records in
    let inside : length c.self.inside.cells.items ≡ length c.args.self.now.cells = sym (length-map c.self.inside.cells.items (λ s. cell_of s.value)) ∙ ap (λ (s : Sheet). length s.cells) c.self.view_is in
    omega (arith, many, inside, run.many, length-map c.self.inside.records.items (λ r. g.C.CellRunner.recorded r.value), ap length c.deref-2.ensures.value, ap length c.deref-4.ensures.value)

pub merge_from-done-requires-clause-hints : goal.merge_from-done-requires-clause-hints
merge_from-done-requires-clause-hints g c = ap length c.deref-6.ensures.value ∙ (c.draft.invariant).1 ∙ sym (ap length c.deref-5.ensures.value)

pub merge_from-done-requires-clause-within : goal.merge_from-done-requires-clause-within
merge_from-done-requires-clause-within g c =
    let inside : length c.self.inside.cells.items ≡ length c.args.self.now.cells = sym (length-map c.self.inside.cells.items (λ s. cell_of s.value)) ∙ ap (λ (s : Sheet). length s.cells) c.self.view_is in
    omega (arith, c.requires.within, inside, ap length c.deref-2.ensures.value)

pub merge_from-done-requires-clause-there : goal.merge_from-done-requires-clause-there
merge_from-done-requires-clause-there g c =
    omega (arith, c.requires.front.within, ap length c.draft.view_is, length-map c.draft.inside.cells.items (λ s. cell_of s.value), ap length c.deref-5.ensures.value)

pub returns-clause-counts : goal.returns-clause-counts
returns-clause-counts g c =
    let run : IsKept g.C.CellRunner.covers (book_of c.args.self.now) (each_of g.C.CellRunner.recorded c.self.inside.records.items) c.self.inside.words.items =
    subst (λ (s : Sheet). IsKept g.C.CellRunner.covers (book_of s) (each_of g.C.CellRunner.recorded c.self.inside.records.items) c.self.inside.words.items) c.self.view_is (c.self.invariant).0 in
    let old : Book = book_of c.args.self.now in
    let new : Book = book_of (sheet c.args.draft.now (g.C.CellRunner.given c.args.world.now)) in
    let merge : IsMerge old new (cells_of c.deref-2.result.now) (cells_of c.deref-5.result.now) (each_of g.C.CellRunner.recorded c.deref-3.result.now) (world_in (g.C.CellRunner.given c.args.world.now)) = record {
      cells = sym (ap cells_of c.deref-2.ensures.value ∙ ap (λ (s : Sheet). s.cells) c.self.view_is);
      now = sym (ap cells_of c.deref-5.ensures.value ∙ c.draft.view_is);
      run = record { records = ap (each_of g.C.CellRunner.recorded) c.deref-3.ensures.value ∙ run.run.records; distinct = run.run.distinct };
      distinct = subst (λ cs. AreDistinct (labels_of cs)) c.draft.view_is (c.draft.invariant).0;
      world = refl;
    } in
    c.merge_from-done.ensures.counts old new c.args.meter.now merge c.requires.at (none_yet old new c.args.from c.args.meter.now)

pub returns-clause-merged : goal.returns-clause-merged
returns-clause-merged g c =
    let run : IsKept g.C.CellRunner.covers (book_of c.args.self.now) (each_of g.C.CellRunner.recorded c.self.inside.records.items) c.self.inside.words.items =
    subst (λ (s : Sheet). IsKept g.C.CellRunner.covers (book_of s) (each_of g.C.CellRunner.recorded c.self.inside.records.items) c.self.inside.words.items) c.self.view_is (c.self.invariant).0 in
    let old : Book = book_of c.args.self.now in
    let new : Book = book_of (sheet c.args.draft.now (g.C.CellRunner.given c.args.world.now)) in
    let merge : IsMerge old new (cells_of c.deref-2.result.now) (cells_of c.deref-5.result.now) (each_of g.C.CellRunner.recorded c.deref-3.result.now) (world_in (g.C.CellRunner.given c.args.world.now)) = record {
      cells = sym (ap cells_of c.deref-2.ensures.value ∙ ap (λ (s : Sheet). s.cells) c.self.view_is);
      now = sym (ap cells_of c.deref-5.ensures.value ∙ c.draft.view_is);
      run = record { records = ap (each_of g.C.CellRunner.recorded) c.deref-3.ensures.value ∙ run.run.records; distinct = run.run.distinct };
      distinct = subst (λ cs. AreDistinct (labels_of cs)) c.draft.view_is (c.draft.invariant).0;
      world = refl;
    } in
    if_ok_more c.gathered.result c.gathered.ensures (λ m h.
    subst (λ xs. AreMerged g.C.CellRunner.covers old new (length c.args.draft.now) (each_of g.C.CellRunner.recorded m.merged.records.items) m.merged.words.items xs) (sym h.3)
    (subst (λ ws. AreMerged g.C.CellRunner.covers old new (length c.args.draft.now) (each_of g.C.CellRunner.recorded m.merged.records.items) ws c.merge_from-done.new.merged.ran.items) (sym h.2)
    (subst (λ rs. AreMerged g.C.CellRunner.covers old new (length c.args.draft.now) (each_of g.C.CellRunner.recorded rs) c.merge_from-done.new.merged.words.items c.merge_from-done.new.merged.ran.items) (sym h.1)
    (ended c.merge_from-done.result c.merge_from-done.ensures.merged h.0 old new merge c.requires.at
    (c.in_ok-merged.ensures old new (record { records = ap (each_of g.C.CellRunner.recorded) c.deref.ensures.value ∙ run.run.records; distinct = run.run.distinct }) c.requires.front)))))

pub returns-clause-noted : goal.returns-clause-noted
returns-clause-noted g c =
    let run : IsKept g.C.CellRunner.covers (book_of c.args.self.now) (each_of g.C.CellRunner.recorded c.self.inside.records.items) c.self.inside.words.items =
    subst (λ (s : Sheet). IsKept g.C.CellRunner.covers (book_of s) (each_of g.C.CellRunner.recorded c.self.inside.records.items) c.self.inside.words.items) c.self.view_is (c.self.invariant).0 in
    let old : Book = book_of c.args.self.now in
    let new : Book = book_of (sheet c.args.draft.now (g.C.CellRunner.given c.args.world.now)) in
    let merge : IsMerge old new (cells_of c.deref-2.result.now) (cells_of c.deref-5.result.now) (each_of g.C.CellRunner.recorded c.deref-3.result.now) (world_in (g.C.CellRunner.given c.args.world.now)) = record {
      cells = sym (ap cells_of c.deref-2.ensures.value ∙ ap (λ (s : Sheet). s.cells) c.self.view_is);
      now = sym (ap cells_of c.deref-5.ensures.value ∙ c.draft.view_is);
      run = record { records = ap (each_of g.C.CellRunner.recorded) c.deref-3.ensures.value ∙ run.run.records; distinct = run.run.distinct };
      distinct = subst (λ cs. AreDistinct (labels_of cs)) c.draft.view_is (c.draft.invariant).0;
      world = refl;
    } in
    if_ok_more c.gathered.result c.gathered.ensures (λ m h.
    subst (λ xs. All (λ n. IsNoted g.C.CellRunner.change_of g.C.CellRunner.kept_session old new n.place n.now n.memo) xs) (sym h.4)
    (ended c.merge_from-done.result c.merge_from-done.ensures.noted h.0 old new merge c.requires.at
    (All-none (λ n. IsNoted g.C.CellRunner.change_of g.C.CellRunner.kept_session old new n.place n.now n.memo) c.new-noted.result.items c.new-noted.ensures.items)))

pub merge_from-done-requires-clause-kept : goal.merge_from-done-requires-clause-kept
merge_from-done-requires-clause-kept g c = λ b there.
    let old : Book = book_of c.args.self.now in
    let run : IsKept g.C.CellRunner.covers (book_of c.args.self.now) (each_of g.C.CellRunner.recorded c.self.inside.records.items) c.self.inside.words.items =
    subst (λ (s : Sheet). IsKept g.C.CellRunner.covers (book_of s) (each_of g.C.CellRunner.recorded c.self.inside.records.items) c.self.inside.words.items) c.self.view_is (c.self.invariant).0 in
    let kept : All (λ x. IsSnapshot old x.place (g.C.CellRunner.kept_session x.version) (map g.C.CellRunner.change_of x.pending.items)) c.self.inside.snapshots.items =
    subst (λ (s : Sheet). All (λ x. IsSnapshot (book_of s) x.place (g.C.CellRunner.kept_session x.version) (map g.C.CellRunner.change_of x.pending.items)) c.self.inside.snapshots.items) c.self.view_is (c.self.invariant).1 in
    kept_lists (λ x. IsSnapshot old x.place (g.C.CellRunner.kept_session x.version) (map g.C.CellRunner.change_of x.pending.items)) (λ x. IsSnapshot b x.place (g.C.CellRunner.kept_session x.version) (map g.C.CellRunner.change_of x.pending.items)) _ _ c.deref-7.ensures.value
    (λ x h. kept_by_records old b _ run.run (record { records = ap (each_of g.C.CellRunner.recorded) (sym c.deref-3.ensures.value) ∙ there.records; distinct = there.distinct }) _ _ _ h) kept

pub copied-requires-clause-room : goal.copied-requires-clause-room
copied-requires-clause-room g c =
    let e : length c.draft.inside.cells.items ≡ length c.args.draft.now = sym (length-map c.draft.inside.cells.items (λ s. cell_of s.value)) ∙ ap length c.draft.view_is in
    omega (arith, e, c.len.ensures, c.requires.front.within)
