use Rattle.std.proofs.Common.{◌≡◌, length, map, sym, ap, subst, ◌∙◌, arith}
use Rattle.std.specs.List.{All}
use Rattle.nd_model.specs.Book.Book.{Book}
use Rattle.nd_model.specs.Book.Notebook.{Sheet, book_of}
use Rattle.nd_schedule.specs.Cells.Shared.{each_of}
use Rattle.nd_schedule.specs.Schedule.Snapshot.{IsSnapshot}
use Rattle.nd_schedule.specs.Schedule.Sweep.{IsKept, IsRun}
use Rattle.nd_schedule.proofs.schedule.Kept.{as_many}
use Rattle.nd_schedule.proofs.schedule.Standing.{All-none}
use Rattle.nd_schedule.proofs.schedule.notebook.Schedule.front_before.Goals as goal

pub session_front-requires-clause-within : goal.session_front-requires-clause-within
session_front-requires-clause-within g c =
    let run : IsKept g.C.CellRunner.covers (book_of c.args.self.now) (each_of g.C.CellRunner.recorded c.self.inside.records.items) c.self.inside.words.items =
    subst (λ (s : Sheet). IsKept g.C.CellRunner.covers (book_of s) (each_of g.C.CellRunner.recorded c.self.inside.records.items) c.self.inside.words.items) c.self.view_is (c.self.invariant).0 in
    let many : length c.self.inside.records.items ≡ length c.args.self.now.cells = as_many (λ r. g.C.CellRunner.recorded r.value) (book_of c.args.self.now) c.self.inside.records.items run.run.records in
    let e : length c.deref.result.now ≡ length c.self.inside.records.items = ap length c.deref.ensures.value in
    omega (arith, many, c.requires)

pub session_front-requires-clause-run : goal.session_front-requires-clause-run
session_front-requires-clause-run g c =
    let b : Book = book_of c.args.self.now in
    let run : IsKept g.C.CellRunner.covers (book_of c.args.self.now) (each_of g.C.CellRunner.recorded c.self.inside.records.items) c.self.inside.words.items =
    subst (λ (s : Sheet). IsKept g.C.CellRunner.covers (book_of s) (each_of g.C.CellRunner.recorded c.self.inside.records.items) c.self.inside.words.items) c.self.view_is (c.self.invariant).0 in
    let kept : All (λ x. IsSnapshot (book_of c.args.self.now) x.place (g.C.CellRunner.kept_session x.version) (map g.C.CellRunner.change_of x.pending.items)) c.self.inside.snapshots.items =
    subst (λ (s : Sheet). All (λ x. IsSnapshot (book_of s) x.place (g.C.CellRunner.kept_session x.version) (map g.C.CellRunner.change_of x.pending.items)) c.self.inside.snapshots.items) c.self.view_is (c.self.invariant).1 in
    let here : IsRun b (each_of g.C.CellRunner.recorded c.deref.result.now) = record { records = ap (each_of g.C.CellRunner.recorded) c.deref.ensures.value ∙ run.run.records; distinct = run.run.distinct } in
    let all : All (λ x. IsSnapshot b x.place (g.C.CellRunner.kept_session x.version) (map g.C.CellRunner.change_of x.pending.items)) c.deref-2.result.now = subst (All (λ x. IsSnapshot b x.place (g.C.CellRunner.kept_session x.version) (map g.C.CellRunner.change_of x.pending.items))) (sym c.deref-2.ensures.value) kept in
    (b, here, all)

pub returns-clause-session : goal.returns-clause-session
returns-clause-session g c =
    let b : Book = book_of c.args.self.now in
    let run : IsKept g.C.CellRunner.covers (book_of c.args.self.now) (each_of g.C.CellRunner.recorded c.self.inside.records.items) c.self.inside.words.items =
    subst (λ (s : Sheet). IsKept g.C.CellRunner.covers (book_of s) (each_of g.C.CellRunner.recorded c.self.inside.records.items) c.self.inside.words.items) c.self.view_is (c.self.invariant).0 in
    let kept : All (λ x. IsSnapshot (book_of c.args.self.now) x.place (g.C.CellRunner.kept_session x.version) (map g.C.CellRunner.change_of x.pending.items)) c.self.inside.snapshots.items =
    subst (λ (s : Sheet). All (λ x. IsSnapshot (book_of s) x.place (g.C.CellRunner.kept_session x.version) (map g.C.CellRunner.change_of x.pending.items)) c.self.inside.snapshots.items) c.self.view_is (c.self.invariant).1 in
    let here : IsRun b (each_of g.C.CellRunner.recorded c.deref.result.now) = record { records = ap (each_of g.C.CellRunner.recorded) c.deref.ensures.value ∙ run.run.records; distinct = run.run.distinct } in
    let all : All (λ x. IsSnapshot b x.place (g.C.CellRunner.kept_session x.version) (map g.C.CellRunner.change_of x.pending.items)) c.deref-2.result.now = subst (All (λ x. IsSnapshot b x.place (g.C.CellRunner.kept_session x.version) (map g.C.CellRunner.change_of x.pending.items))) (sym c.deref-2.ensures.value) kept in
    c.in_ok-session.ensures.session b here all

pub returns-clause-fresh : goal.returns-clause-fresh
returns-clause-fresh g c =
    let b : Book = book_of c.args.self.now in
    let run : IsKept g.C.CellRunner.covers (book_of c.args.self.now) (each_of g.C.CellRunner.recorded c.self.inside.records.items) c.self.inside.words.items =
    subst (λ (s : Sheet). IsKept g.C.CellRunner.covers (book_of s) (each_of g.C.CellRunner.recorded c.self.inside.records.items) c.self.inside.words.items) c.self.view_is (c.self.invariant).0 in
    let kept : All (λ x. IsSnapshot (book_of c.args.self.now) x.place (g.C.CellRunner.kept_session x.version) (map g.C.CellRunner.change_of x.pending.items)) c.self.inside.snapshots.items =
    subst (λ (s : Sheet). All (λ x. IsSnapshot (book_of s) x.place (g.C.CellRunner.kept_session x.version) (map g.C.CellRunner.change_of x.pending.items)) c.self.inside.snapshots.items) c.self.view_is (c.self.invariant).1 in
    let here : IsRun b (each_of g.C.CellRunner.recorded c.deref.result.now) = record { records = ap (each_of g.C.CellRunner.recorded) c.deref.ensures.value ∙ run.run.records; distinct = run.run.distinct } in
    let all : All (λ x. IsSnapshot b x.place (g.C.CellRunner.kept_session x.version) (map g.C.CellRunner.change_of x.pending.items)) c.deref-2.result.now = subst (All (λ x. IsSnapshot b x.place (g.C.CellRunner.kept_session x.version) (map g.C.CellRunner.change_of x.pending.items))) (sym c.deref-2.ensures.value) kept in
    c.session_front.ensures.fresh b here all (All-none (λ x. IsSnapshot b x.place (g.C.CellRunner.kept_session x.version) (map g.C.CellRunner.change_of x.pending.items)) c.new-fresh.result.items c.new-fresh.ensures.items)
