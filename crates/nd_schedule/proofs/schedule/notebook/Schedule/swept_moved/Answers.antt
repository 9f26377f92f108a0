use Rattle.std.proofs.lemmas.Grind.{common_steps}
use Rattle.std.proofs.Common.{◌≡◌, length, refl, sym, ap, subst, ◌∙◌, arith, map}
use Rattle.std.proofs.lemmas.Grind.{common_steps}
use Rattle.std.proofs.lemmas.List.{length-map}
use Rattle.nd_model.specs.Book.Book.{Book, Move}
use Rattle.nd_model.specs.Book.Notebook.{Sheet, book_of, edited_sheet, world_in}
use Rattle.nd_schedule.specs.Cells.Source.{cell_of, cells_of}
use Rattle.nd_schedule.specs.Cells.Shared.{each_of}
use Rattle.nd_schedule.specs.Schedule.Sweep.{AreWords, IsAt, IsKept, IsMoving}
use Rattle.nd_schedule.specs.Schedule.Snapshot.{IsSnapshot}
use Rattle.nd_schedule.proofs.schedule.Standing.{kept_by_records, kept_lists}
use Rattle.std.specs.List.{All}
use Rattle.nd_schedule.proofs.schedule.Kept.{as_many}
use Rattle.nd_schedule.proofs.schedule.Turning.{from_hand_on, front, gathered_of, if_ok_more, moving}
use Rattle.nd_schedule.proofs.schedule.notebook.Schedule.swept_moved.Goals as goal

pub move_down-done-requires-clause-records : goal.move_down-done-requires-clause-records
move_down-done-requires-clause-records g c =
    let run : IsKept g.C.CellRunner.covers (book_of c.args.self.now) (each_of g.C.CellRunner.recorded c.self.inside.records.items) c.self.inside.words.items =
    subst (λ (s : Sheet). IsKept g.C.CellRunner.covers (book_of s) (each_of g.C.CellRunner.recorded c.self.inside.records.items) c.self.inside.words.items) c.self.view_is (c.self.invariant).0 in
    let many : length c.self.inside.records.items ≡ length c.args.self.now.cells = as_many (λ r. g.C.CellRunner.recorded r.value) (book_of c.args.self.now) c.self.inside.records.items run.run.records in
    let inside : length c.self.inside.cells.items ≡ length c.args.self.now.cells = sym (length-map c.self.inside.cells.items (λ s. cell_of s.value)) ∙ ap (λ (s : Sheet). length s.cells) c.self.view_is in
    ap length c.deref-then-from-to.ensures.value ∙ many ∙ sym inside ∙ sym (ap length c.deref.ensures.value)

pub move_down-done-requires-clause-places : goal.move_down-done-requires-clause-places
move_down-done-requires-clause-places g c =
    let run : IsKept g.C.CellRunner.covers (book_of c.args.self.now) (each_of g.C.CellRunner.recorded c.self.inside.records.items) c.self.inside.words.items =
    subst (λ (s : Sheet). IsKept g.C.CellRunner.covers (book_of s) (each_of g.C.CellRunner.recorded c.self.inside.records.items) c.self.inside.words.items) c.self.view_is (c.self.invariant).0 in
    let many : length c.self.inside.records.items ≡ length c.args.self.now.cells = as_many (λ r. g.C.CellRunner.recorded r.value) (book_of c.args.self.now) c.self.inside.records.items run.run.records in
    let inside : length c.self.inside.cells.items ≡ length c.args.self.now.cells = sym (length-map c.self.inside.cells.items (λ s. cell_of s.value)) ∙ ap (λ (s : Sheet). length s.cells) c.self.view_is in
    let viewed : length (each_of g.C.CellRunner.recorded c.self.inside.records.items) ≡ length c.self.inside.records.items = length-map c.self.inside.records.items (λ r. g.C.CellRunner.recorded r.value) in
    ap length c.deref-then-from-to-2.ensures.value ∙ run.many ∙ viewed ∙ many ∙ sym inside ∙ sym (ap length c.deref.ensures.value)

pub move_down-done-requires-clause-at : goal.move_down-done-requires-clause-at
move_down-done-requires-clause-at g c =
    let run : IsKept g.C.CellRunner.covers (book_of c.args.self.now) (each_of g.C.CellRunner.recorded c.self.inside.records.items) c.self.inside.words.items =
    subst (λ (s : Sheet). IsKept g.C.CellRunner.covers (book_of s) (each_of g.C.CellRunner.recorded c.self.inside.records.items) c.self.inside.words.items) c.self.view_is (c.self.invariant).0 in
    let old : Book = book_of c.args.self.now in
    let new : Book = book_of (edited_sheet (Move c.args.from c.args.to) c.args.self.now) in
    let way : IsMoving old new c.args.from c.args.to (cells_of c.deref.result.now) (each_of g.C.CellRunner.recorded c.deref-then-from-to.result.now) (world_in (g.C.CellRunner.given c.self.inside.world)) =
    moving c.args.self.now c.args.from c.args.to _ _ _ (sym (ap cells_of c.deref.ensures.value ∙ ap (λ (s : Sheet). s.cells) c.self.view_is))
    (record { records = ap (each_of g.C.CellRunner.recorded) c.deref-then-from-to.ensures.value ∙ run.run.records; distinct = run.run.distinct }) (sym (ap (λ (s : Sheet). world_in s.given) c.self.view_is)) c.requires.from c.requires.to in
    let least : c.min.result ≡ c.args.from = omega (arith, c.min.ensures, c.if-from-to.true) in
    let at : IsAt old new c.args.from c.args.from (g.C.CellRunner.change_of c.begin-state.result.change) (g.C.CellRunner.session_of c.begin-state.result.session) c.begin-state.result.since =
    subst (λ k. IsAt old new k k (g.C.CellRunner.change_of c.begin-state.result.change) (g.C.CellRunner.session_of c.begin-state.result.session) c.begin-state.result.since) least
    (c.begin-state.ensures.at new (front old new c.args.from c.args.to _ _ _ way c.min.result (omega (arith, least, c.if-from-to.true)) (omega (arith, least, c.if-from-to.true))) refl) in
    (old, new, way, at)

pub move_down-done-requires-clause-words : goal.move_down-done-requires-clause-words
move_down-done-requires-clause-words g c =
    let run : IsKept g.C.CellRunner.covers (book_of c.args.self.now) (each_of g.C.CellRunner.recorded c.self.inside.records.items) c.self.inside.words.items =
    subst (λ (s : Sheet). IsKept g.C.CellRunner.covers (book_of s) (each_of g.C.CellRunner.recorded c.self.inside.records.items) c.self.inside.words.items) c.self.view_is (c.self.invariant).0 in
    subst (λ rs. AreWords g.C.CellRunner.covers c.deref-then-from-to-2.result.now (each_of g.C.CellRunner.recorded rs)) (sym c.deref-then-from-to.ensures.value)
    (subst (λ ws. AreWords g.C.CellRunner.covers ws (each_of g.C.CellRunner.recorded c.self.inside.records.items)) (sym c.deref-then-from-to-2.ensures.value) run.words)

pub returns-then-from-to-clause-gathered : goal.returns-then-from-to-clause-gathered
returns-then-from-to-clause-gathered g c =
    let run : IsKept g.C.CellRunner.covers (book_of c.args.self.now) (each_of g.C.CellRunner.recorded c.self.inside.records.items) c.self.inside.words.items =
    subst (λ (s : Sheet). IsKept g.C.CellRunner.covers (book_of s) (each_of g.C.CellRunner.recorded c.self.inside.records.items) c.self.inside.words.items) c.self.view_is (c.self.invariant).0 in
    let old : Book = book_of c.args.self.now in
    let new : Book = book_of (edited_sheet (Move c.args.from c.args.to) c.args.self.now) in
    let way : IsMoving old new c.args.from c.args.to (cells_of c.deref.result.now) (each_of g.C.CellRunner.recorded c.deref-then-from-to.result.now) (world_in (g.C.CellRunner.given c.self.inside.world)) =
    moving c.args.self.now c.args.from c.args.to _ _ _ (sym (ap cells_of c.deref.ensures.value ∙ ap (λ (s : Sheet). s.cells) c.self.view_is))
    (record { records = ap (each_of g.C.CellRunner.recorded) c.deref-then-from-to.ensures.value ∙ run.run.records; distinct = run.run.distinct }) (sym (ap (λ (s : Sheet). world_in s.given) c.self.view_is)) c.requires.from c.requires.to in
    let least : c.min.result ≡ c.args.from = omega (arith, c.min.ensures, c.if-from-to.true) in
    let at : IsAt old new c.args.from c.args.from (g.C.CellRunner.change_of c.begin-state.result.change) (g.C.CellRunner.session_of c.begin-state.result.session) c.begin-state.result.since =
    subst (λ k. IsAt old new k k (g.C.CellRunner.change_of c.begin-state.result.change) (g.C.CellRunner.session_of c.begin-state.result.session) c.begin-state.result.since) least
    (c.begin-state.ensures.at new (front old new c.args.from c.args.to _ _ _ way c.min.result (omega (arith, least, c.if-from-to.true)) (omega (arith, least, c.if-from-to.true))) refl) in
    let inside : length c.deref.result.now ≡ length c.args.self.now.cells = ap length c.deref.ensures.value ∙ sym (length-map c.self.inside.cells.items (λ s. cell_of s.value)) ∙ ap (λ (s : Sheet). length s.cells) c.self.view_is in
    from_hand_on _ c.hand_on.result c.move_down-done.result c.move_down-done.new.moved c.hand_on.ensures (if_ok_more c.move_down-done.result c.move_down-done.ensures.gathered (λ _ h. gathered_of inside (h old new way at)))

pub returns-then-from-to-clause-counts : goal.returns-then-from-to-clause-counts
returns-then-from-to-clause-counts g c =
    let run : IsKept g.C.CellRunner.covers (book_of c.args.self.now) (each_of g.C.CellRunner.recorded c.self.inside.records.items) c.self.inside.words.items =
    subst (λ (s : Sheet). IsKept g.C.CellRunner.covers (book_of s) (each_of g.C.CellRunner.recorded c.self.inside.records.items) c.self.inside.words.items) c.self.view_is (c.self.invariant).0 in
    let old : Book = book_of c.args.self.now in
    let new : Book = book_of (edited_sheet (Move c.args.from c.args.to) c.args.self.now) in
    let way : IsMoving old new c.args.from c.args.to (cells_of c.deref.result.now) (each_of g.C.CellRunner.recorded c.deref-then-from-to.result.now) (world_in (g.C.CellRunner.given c.self.inside.world)) =
    moving c.args.self.now c.args.from c.args.to _ _ _ (sym (ap cells_of c.deref.ensures.value ∙ ap (λ (s : Sheet). s.cells) c.self.view_is))
    (record { records = ap (each_of g.C.CellRunner.recorded) c.deref-then-from-to.ensures.value ∙ run.run.records; distinct = run.run.distinct }) (sym (ap (λ (s : Sheet). world_in s.given) c.self.view_is)) c.requires.from c.requires.to in
    let least : c.min.result ≡ c.args.from = omega (arith, c.min.ensures, c.if-from-to.true) in
    let at : IsAt old new c.args.from c.args.from (g.C.CellRunner.change_of c.begin-state.result.change) (g.C.CellRunner.session_of c.begin-state.result.session) c.begin-state.result.since =
    subst (λ k. IsAt old new k k (g.C.CellRunner.change_of c.begin-state.result.change) (g.C.CellRunner.session_of c.begin-state.result.session) c.begin-state.result.since) least
    (c.begin-state.ensures.at new (front old new c.args.from c.args.to _ _ _ way c.min.result (omega (arith, least, c.if-from-to.true)) (omega (arith, least, c.if-from-to.true))) refl) in
    c.move_down-done.ensures.counts old new way at

pub move_up-done-requires-clause-records : goal.move_up-done-requires-clause-records
move_up-done-requires-clause-records g c =
    let run : IsKept g.C.CellRunner.covers (book_of c.args.self.now) (each_of g.C.CellRunner.recorded c.self.inside.records.items) c.self.inside.words.items =
    subst (λ (s : Sheet). IsKept g.C.CellRunner.covers (book_of s) (each_of g.C.CellRunner.recorded c.self.inside.records.items) c.self.inside.words.items) c.self.view_is (c.self.invariant).0 in
    let many : length c.self.inside.records.items ≡ length c.args.self.now.cells = as_many (λ r. g.C.CellRunner.recorded r.value) (book_of c.args.self.now) c.self.inside.records.items run.run.records in
    let inside : length c.self.inside.cells.items ≡ length c.args.self.now.cells = sym (length-map c.self.inside.cells.items (λ s. cell_of s.value)) ∙ ap (λ (s : Sheet). length s.cells) c.self.view_is in
    ap length c.deref-3.ensures.value ∙ many ∙ sym inside ∙ sym (ap length c.deref-2.ensures.value)

pub move_up-done-requires-clause-places : goal.move_up-done-requires-clause-places
move_up-done-requires-clause-places g c =
    let run : IsKept g.C.CellRunner.covers (book_of c.args.self.now) (each_of g.C.CellRunner.recorded c.self.inside.records.items) c.self.inside.words.items =
    subst (λ (s : Sheet). IsKept g.C.CellRunner.covers (book_of s) (each_of g.C.CellRunner.recorded c.self.inside.records.items) c.self.inside.words.items) c.self.view_is (c.self.invariant).0 in
    let many : length c.self.inside.records.items ≡ length c.args.self.now.cells = as_many (λ r. g.C.CellRunner.recorded r.value) (book_of c.args.self.now) c.self.inside.records.items run.run.records in
    let inside : length c.self.inside.cells.items ≡ length c.args.self.now.cells = sym (length-map c.self.inside.cells.items (λ s. cell_of s.value)) ∙ ap (λ (s : Sheet). length s.cells) c.self.view_is in
    let viewed : length (each_of g.C.CellRunner.recorded c.self.inside.records.items) ≡ length c.self.inside.records.items = length-map c.self.inside.records.items (λ r. g.C.CellRunner.recorded r.value) in
    ap length c.deref-4.ensures.value ∙ run.many ∙ viewed ∙ many ∙ sym inside ∙ sym (ap length c.deref-2.ensures.value)

pub move_up-done-requires-clause-at : goal.move_up-done-requires-clause-at
move_up-done-requires-clause-at g c =
    let run : IsKept g.C.CellRunner.covers (book_of c.args.self.now) (each_of g.C.CellRunner.recorded c.self.inside.records.items) c.self.inside.words.items =
    subst (λ (s : Sheet). IsKept g.C.CellRunner.covers (book_of s) (each_of g.C.CellRunner.recorded c.self.inside.records.items) c.self.inside.words.items) c.self.view_is (c.self.invariant).0 in
    let old : Book = book_of c.args.self.now in
    let new : Book = book_of (edited_sheet (Move c.args.from c.args.to) c.args.self.now) in
    let way : IsMoving old new c.args.from c.args.to (cells_of c.deref-2.result.now) (each_of g.C.CellRunner.recorded c.deref-3.result.now) (world_in (g.C.CellRunner.given c.self.inside.world)) =
    moving c.args.self.now c.args.from c.args.to _ _ _ (sym (ap cells_of c.deref-2.ensures.value ∙ ap (λ (s : Sheet). s.cells) c.self.view_is))
    (record { records = ap (each_of g.C.CellRunner.recorded) c.deref-3.ensures.value ∙ run.run.records; distinct = run.run.distinct }) (sym (ap (λ (s : Sheet). world_in s.given) c.self.view_is)) c.requires.from c.requires.to in
    let least : c.min.result ≡ c.args.to = omega (arith, c.min.ensures, c.if-from-to.false) in
    let at : IsAt old new c.args.to c.args.to (g.C.CellRunner.change_of c.begin-state.result.change) (g.C.CellRunner.session_of c.begin-state.result.session) c.begin-state.result.since =
    subst (λ k. IsAt old new k k (g.C.CellRunner.change_of c.begin-state.result.change) (g.C.CellRunner.session_of c.begin-state.result.session) c.begin-state.result.since) least
    (c.begin-state.ensures.at new (front old new c.args.from c.args.to _ _ _ way c.min.result (omega (arith, least, c.if-from-to.false)) (omega (arith, least, c.if-from-to.false))) refl) in
    (old, new, way, at)

pub move_up-done-requires-clause-words : goal.move_up-done-requires-clause-words
move_up-done-requires-clause-words g c =
    let run : IsKept g.C.CellRunner.covers (book_of c.args.self.now) (each_of g.C.CellRunner.recorded c.self.inside.records.items) c.self.inside.words.items =
    subst (λ (s : Sheet). IsKept g.C.CellRunner.covers (book_of s) (each_of g.C.CellRunner.recorded c.self.inside.records.items) c.self.inside.words.items) c.self.view_is (c.self.invariant).0 in
    subst (λ rs. AreWords g.C.CellRunner.covers c.deref-4.result.now (each_of g.C.CellRunner.recorded rs)) (sym c.deref-3.ensures.value)
    (subst (λ ws. AreWords g.C.CellRunner.covers ws (each_of g.C.CellRunner.recorded c.self.inside.records.items)) (sym c.deref-4.ensures.value) run.words)

pub returns-clause-gathered : goal.returns-clause-gathered
returns-clause-gathered g c =
    let run : IsKept g.C.CellRunner.covers (book_of c.args.self.now) (each_of g.C.CellRunner.recorded c.self.inside.records.items) c.self.inside.words.items =
    subst (λ (s : Sheet). IsKept g.C.CellRunner.covers (book_of s) (each_of g.C.CellRunner.recorded c.self.inside.records.items) c.self.inside.words.items) c.self.view_is (c.self.invariant).0 in
    let old : Book = book_of c.args.self.now in
    let new : Book = book_of (edited_sheet (Move c.args.from c.args.to) c.args.self.now) in
    let way : IsMoving old new c.args.from c.args.to (cells_of c.deref-2.result.now) (each_of g.C.CellRunner.recorded c.deref-3.result.now) (world_in (g.C.CellRunner.given c.self.inside.world)) =
    moving c.args.self.now c.args.from c.args.to _ _ _ (sym (ap cells_of c.deref-2.ensures.value ∙ ap (λ (s : Sheet). s.cells) c.self.view_is))
    (record { records = ap (each_of g.C.CellRunner.recorded) c.deref-3.ensures.value ∙ run.run.records; distinct = run.run.distinct }) (sym (ap (λ (s : Sheet). world_in s.given) c.self.view_is)) c.requires.from c.requires.to in
    let least : c.min.result ≡ c.args.to = omega (arith, c.min.ensures, c.if-from-to.false) in
    let at : IsAt old new c.args.to c.args.to (g.C.CellRunner.change_of c.begin-state.result.change) (g.C.CellRunner.session_of c.begin-state.result.session) c.begin-state.result.since =
    subst (λ k. IsAt old new k k (g.C.CellRunner.change_of c.begin-state.result.change) (g.C.CellRunner.session_of c.begin-state.result.session) c.begin-state.result.since) least
    (c.begin-state.ensures.at new (front old new c.args.from c.args.to _ _ _ way c.min.result (omega (arith, least, c.if-from-to.false)) (omega (arith, least, c.if-from-to.false))) refl) in
    let inside : length c.deref-2.result.now ≡ length c.args.self.now.cells = ap length c.deref-2.ensures.value ∙ sym (length-map c.self.inside.cells.items (λ s. cell_of s.value)) ∙ ap (λ (s : Sheet). length s.cells) c.self.view_is in
    from_hand_on _ c.hand_on-2.result c.move_up-done.result c.move_up-done.new.moved c.hand_on-2.ensures (if_ok_more c.move_up-done.result c.move_up-done.ensures.gathered (λ _ h. gathered_of inside (h old new way at)))

pub returns-clause-counts : goal.returns-clause-counts
returns-clause-counts g c =
    let run : IsKept g.C.CellRunner.covers (book_of c.args.self.now) (each_of g.C.CellRunner.recorded c.self.inside.records.items) c.self.inside.words.items =
    subst (λ (s : Sheet). IsKept g.C.CellRunner.covers (book_of s) (each_of g.C.CellRunner.recorded c.self.inside.records.items) c.self.inside.words.items) c.self.view_is (c.self.invariant).0 in
    let old : Book = book_of c.args.self.now in
    let new : Book = book_of (edited_sheet (Move c.args.from c.args.to) c.args.self.now) in
    let way : IsMoving old new c.args.from c.args.to (cells_of c.deref-2.result.now) (each_of g.C.CellRunner.recorded c.deref-3.result.now) (world_in (g.C.CellRunner.given c.self.inside.world)) =
    moving c.args.self.now c.args.from c.args.to _ _ _ (sym (ap cells_of c.deref-2.ensures.value ∙ ap (λ (s : Sheet). s.cells) c.self.view_is))
    (record { records = ap (each_of g.C.CellRunner.recorded) c.deref-3.ensures.value ∙ run.run.records; distinct = run.run.distinct }) (sym (ap (λ (s : Sheet). world_in s.given) c.self.view_is)) c.requires.from c.requires.to in
    let least : c.min.result ≡ c.args.to = omega (arith, c.min.ensures, c.if-from-to.false) in
    let at : IsAt old new c.args.to c.args.to (g.C.CellRunner.change_of c.begin-state.result.change) (g.C.CellRunner.session_of c.begin-state.result.session) c.begin-state.result.since =
    subst (λ k. IsAt old new k k (g.C.CellRunner.change_of c.begin-state.result.change) (g.C.CellRunner.session_of c.begin-state.result.session) c.begin-state.result.since) least
    (c.begin-state.ensures.at new (front old new c.args.from c.args.to _ _ _ way c.min.result (omega (arith, least, c.if-from-to.false)) (omega (arith, least, c.if-from-to.false))) refl) in
    c.move_up-done.ensures.counts old new way at

pub returns-then-from-to-clause-noted : goal.returns-then-from-to-clause-noted
returns-then-from-to-clause-noted g c =
    let run : IsKept g.C.CellRunner.covers (book_of c.args.self.now) (each_of g.C.CellRunner.recorded c.self.inside.records.items) c.self.inside.words.items =
    subst (λ (s : Sheet). IsKept g.C.CellRunner.covers (book_of s) (each_of g.C.CellRunner.recorded c.self.inside.records.items) c.self.inside.words.items) c.self.view_is (c.self.invariant).0 in
    let old : Book = book_of c.args.self.now in
    let new : Book = book_of (edited_sheet (Move c.args.from c.args.to) c.args.self.now) in
    let way : IsMoving old new c.args.from c.args.to (cells_of c.deref.result.now) (each_of g.C.CellRunner.recorded c.deref-then-from-to.result.now) (world_in (g.C.CellRunner.given c.self.inside.world)) =
    moving c.args.self.now c.args.from c.args.to _ _ _ (sym (ap cells_of c.deref.ensures.value ∙ ap (λ (s : Sheet). s.cells) c.self.view_is))
    (record { records = ap (each_of g.C.CellRunner.recorded) c.deref-then-from-to.ensures.value ∙ run.run.records; distinct = run.run.distinct }) (sym (ap (λ (s : Sheet). world_in s.given) c.self.view_is)) c.requires.from c.requires.to in
    let least : c.min.result ≡ c.args.from = omega (arith, c.min.ensures, c.if-from-to.true) in
    let at : IsAt old new c.args.from c.args.from (g.C.CellRunner.change_of c.begin-state.result.change) (g.C.CellRunner.session_of c.begin-state.result.session) c.begin-state.result.since =
    subst (λ k. IsAt old new k k (g.C.CellRunner.change_of c.begin-state.result.change) (g.C.CellRunner.session_of c.begin-state.result.session) c.begin-state.result.since) least
    (c.begin-state.ensures.at new (front old new c.args.from c.args.to _ _ _ way c.min.result (omega (arith, least, c.if-from-to.true)) (omega (arith, least, c.if-from-to.true))) refl) in
    from_hand_on _ c.hand_on.result c.move_down-done.result c.move_down-done.new.moved c.hand_on.ensures (if_ok_more c.move_down-done.result c.move_down-done.ensures.noted (λ _ h. h old new way at))

pub returns-clause-noted : goal.returns-clause-noted
returns-clause-noted g c =
    let run : IsKept g.C.CellRunner.covers (book_of c.args.self.now) (each_of g.C.CellRunner.recorded c.self.inside.records.items) c.self.inside.words.items =
    subst (λ (s : Sheet). IsKept g.C.CellRunner.covers (book_of s) (each_of g.C.CellRunner.recorded c.self.inside.records.items) c.self.inside.words.items) c.self.view_is (c.self.invariant).0 in
    let old : Book = book_of c.args.self.now in
    let new : Book = book_of (edited_sheet (Move c.args.from c.args.to) c.args.self.now) in
    let way : IsMoving old new c.args.from c.args.to (cells_of c.deref-2.result.now) (each_of g.C.CellRunner.recorded c.deref-3.result.now) (world_in (g.C.CellRunner.given c.self.inside.world)) =
    moving c.args.self.now c.args.from c.args.to _ _ _ (sym (ap cells_of c.deref-2.ensures.value ∙ ap (λ (s : Sheet). s.cells) c.self.view_is))
    (record { records = ap (each_of g.C.CellRunner.recorded) c.deref-3.ensures.value ∙ run.run.records; distinct = run.run.distinct }) (sym (ap (λ (s : Sheet). world_in s.given) c.self.view_is)) c.requires.from c.requires.to in
    let least : c.min.result ≡ c.args.to = omega (arith, c.min.ensures, c.if-from-to.false) in
    let at : IsAt old new c.args.to c.args.to (g.C.CellRunner.change_of c.begin-state.result.change) (g.C.CellRunner.session_of c.begin-state.result.session) c.begin-state.result.since =
    subst (λ k. IsAt old new k k (g.C.CellRunner.change_of c.begin-state.result.change) (g.C.CellRunner.session_of c.begin-state.result.session) c.begin-state.result.since) least
    (c.begin-state.ensures.at new (front old new c.args.from c.args.to _ _ _ way c.min.result (omega (arith, least, c.if-from-to.false)) (omega (arith, least, c.if-from-to.false))) refl) in
    from_hand_on _ c.hand_on-2.result c.move_up-done.result c.move_up-done.new.moved c.hand_on-2.ensures (if_ok_more c.move_up-done.result c.move_up-done.ensures.noted (λ _ h. h old new way at))

pub move_down-done-requires-clause-kept : goal.move_down-done-requires-clause-kept
move_down-done-requires-clause-kept g c = λ b there.
    let old : Book = book_of c.args.self.now in
    let run : IsKept g.C.CellRunner.covers (book_of c.args.self.now) (each_of g.C.CellRunner.recorded c.self.inside.records.items) c.self.inside.words.items =
    subst (λ (s : Sheet). IsKept g.C.CellRunner.covers (book_of s) (each_of g.C.CellRunner.recorded c.self.inside.records.items) c.self.inside.words.items) c.self.view_is (c.self.invariant).0 in
    let kept : All (λ x. IsSnapshot (book_of c.args.self.now) x.place (g.C.CellRunner.kept_session x.version) (map g.C.CellRunner.change_of x.pending.items)) c.self.inside.snapshots.items =
    subst (λ (s : Sheet). All (λ x. IsSnapshot (book_of s) x.place (g.C.CellRunner.kept_session x.version) (map g.C.CellRunner.change_of x.pending.items)) c.self.inside.snapshots.items) c.self.view_is (c.self.invariant).1 in
    kept_lists (λ x. IsSnapshot old x.place (g.C.CellRunner.kept_session x.version) (map g.C.CellRunner.change_of x.pending.items)) (λ x. IsSnapshot b x.place (g.C.CellRunner.kept_session x.version) (map g.C.CellRunner.change_of x.pending.items)) _ _ c.deref-then-from-to-3.ensures.value
    (λ x h. kept_by_records old b _ run.run (record { records = ap (each_of g.C.CellRunner.recorded) (sym c.deref-then-from-to.ensures.value) ∙ there.records; distinct = there.distinct }) _ _ _ h) kept

pub move_up-done-requires-clause-kept : goal.move_up-done-requires-clause-kept
move_up-done-requires-clause-kept g c = λ b there.
    let old : Book = book_of c.args.self.now in
    let run : IsKept g.C.CellRunner.covers (book_of c.args.self.now) (each_of g.C.CellRunner.recorded c.self.inside.records.items) c.self.inside.words.items =
    subst (λ (s : Sheet). IsKept g.C.CellRunner.covers (book_of s) (each_of g.C.CellRunner.recorded c.self.inside.records.items) c.self.inside.words.items) c.self.view_is (c.self.invariant).0 in
    let kept : All (λ x. IsSnapshot (book_of c.args.self.now) x.place (g.C.CellRunner.kept_session x.version) (map g.C.CellRunner.change_of x.pending.items)) c.self.inside.snapshots.items =
    subst (λ (s : Sheet). All (λ x. IsSnapshot (book_of s) x.place (g.C.CellRunner.kept_session x.version) (map g.C.CellRunner.change_of x.pending.items)) c.self.inside.snapshots.items) c.self.view_is (c.self.invariant).1 in
    kept_lists (λ x. IsSnapshot old x.place (g.C.CellRunner.kept_session x.version) (map g.C.CellRunner.change_of x.pending.items)) (λ x. IsSnapshot b x.place (g.C.CellRunner.kept_session x.version) (map g.C.CellRunner.change_of x.pending.items)) _ _ c.deref-5.ensures.value
    (λ x h. kept_by_records old b _ run.run (record { records = ap (each_of g.C.CellRunner.recorded) (sym c.deref-3.ensures.value) ∙ there.records; distinct = there.distinct }) _ _ _ h) kept

pub begin-state-requires-clause-at : goal.begin-state-requires-clause-at
begin-state-requires-clause-at g c = grind (arith, common_steps)

pub begin-state-requires-clause-session : goal.begin-state-requires-clause-session
begin-state-requires-clause-session g c = grind (arith, common_steps)

pub move_down-done-requires-clause-changed : goal.move_down-done-requires-clause-changed
move_down-done-requires-clause-changed g c = c.begin-state.ensures.changed

pub move_down-done-requires-clause-covered : goal.move_down-done-requires-clause-covered
move_down-done-requires-clause-covered g c = c.begin-state.ensures.covered

pub move_down-done-requires-clause-down : goal.move_down-done-requires-clause-down
move_down-done-requires-clause-down g c = c.if-from-to.true

pub move_down-done-requires-clause-to : goal.move_down-done-requires-clause-to
move_down-done-requires-clause-to g c = grind (arith, common_steps)

pub move_up-done-requires-clause-changed : goal.move_up-done-requires-clause-changed
move_up-done-requires-clause-changed g c = c.begin-state.ensures.changed

pub move_up-done-requires-clause-covered : goal.move_up-done-requires-clause-covered
move_up-done-requires-clause-covered g c = c.begin-state.ensures.covered

pub move_up-done-requires-clause-from : goal.move_up-done-requires-clause-from
move_up-done-requires-clause-from g c = grind (arith, common_steps)

pub move_up-done-requires-clause-up : goal.move_up-done-requires-clause-up
move_up-done-requires-clause-up g c = grind (arith, common_steps)

pub move_down-done-requires-clause-between : goal.move_down-done-requires-clause-between
move_down-done-requires-clause-between g c = c.nothing-moved.ensures.between

pub move_down-done-requires-clause-noted : goal.move_down-done-requires-clause-noted
move_down-done-requires-clause-noted g c = c.nothing-moved.ensures.noted

pub move_up-done-requires-clause-between : goal.move_up-done-requires-clause-between
move_up-done-requires-clause-between g c = c.nothing-moved.ensures.between

pub move_up-done-requires-clause-noted : goal.move_up-done-requires-clause-noted
move_up-done-requires-clause-noted g c = c.nothing-moved.ensures.noted
