use Rattle.std.proofs.Common.{◌≡◌, length, map, sym, ap, subst, ◌∙◌, arith}
use Rattle.std.specs.List.{All}
use Rattle.nd_model.specs.Book.Book.{Book}
use Rattle.nd_model.specs.Book.Notebook.{Sheet, book_of}
use Rattle.nd_schedule.specs.Cells.Shared.{each_of}
use Rattle.nd_schedule.specs.Schedule.Snapshot.{IsSnapshot}
use Rattle.nd_schedule.specs.Schedule.Sweep.{IsKept}
use Rattle.nd_schedule.proofs.schedule.Kept.{as_many}
use Rattle.nd_schedule.proofs.schedule.notebook.Schedule.session_like.Goals as goal

pub replay_between-requires-clause-within : goal.replay_between-requires-clause-within
replay_between-requires-clause-within g c =
    let run : IsKept g.C.CellRunner.covers (book_of c.args.self.now) (each_of g.C.CellRunner.recorded c.self.inside.records.items) c.self.inside.words.items =
    subst (λ (s : Sheet). IsKept g.C.CellRunner.covers (book_of s) (each_of g.C.CellRunner.recorded c.self.inside.records.items) c.self.inside.words.items) c.self.view_is (c.self.invariant).0 in
    let many : length c.self.inside.records.items ≡ length c.args.self.now.cells = as_many (λ r. g.C.CellRunner.recorded r.value) (book_of c.args.self.now) c.self.inside.records.items run.run.records in
    let e : length c.deref-2.result.now ≡ length c.self.inside.records.items = ap length c.deref-2.ensures.value in
    omega (arith, many, c.requires)

pub replay_between-requires-clause-run : goal.replay_between-requires-clause-run
replay_between-requires-clause-run g c =
    let b : Book = book_of c.args.self.now in
    let run : IsKept g.C.CellRunner.covers b (each_of g.C.CellRunner.recorded c.self.inside.records.items) c.self.inside.words.items =
    subst (λ (s : Sheet). IsKept g.C.CellRunner.covers (book_of s) (each_of g.C.CellRunner.recorded c.self.inside.records.items) c.self.inside.words.items) c.self.view_is (c.self.invariant).0 in
    let kept : All (λ s. IsSnapshot b s.place (g.C.CellRunner.kept_session s.version) (map g.C.CellRunner.change_of s.pending.items)) c.self.inside.snapshots.items =
    subst (λ (s : Sheet). All (λ s'. IsSnapshot (book_of s) s'.place (g.C.CellRunner.kept_session s'.version) (map g.C.CellRunner.change_of s'.pending.items)) c.self.inside.snapshots.items) c.self.view_is (c.self.invariant).1 in (
      b,
      record { records = ap (each_of g.C.CellRunner.recorded) c.deref-2.ensures.value ∙ run.run.records; distinct = run.run.distinct },
      c.in_ok-from.ensures.session b (subst (All (λ s. IsSnapshot b s.place (g.C.CellRunner.kept_session s.version) (map g.C.CellRunner.change_of s.pending.items))) (sym c.deref.ensures.value) kept),
    )

pub returns : goal.returns
returns g c =
    let b : Book = book_of c.args.self.now in
    let run : IsKept g.C.CellRunner.covers b (each_of g.C.CellRunner.recorded c.self.inside.records.items) c.self.inside.words.items =
    subst (λ (s : Sheet). IsKept g.C.CellRunner.covers (book_of s) (each_of g.C.CellRunner.recorded c.self.inside.records.items) c.self.inside.words.items) c.self.view_is (c.self.invariant).0 in
    let kept : All (λ s. IsSnapshot b s.place (g.C.CellRunner.kept_session s.version) (map g.C.CellRunner.change_of s.pending.items)) c.self.inside.snapshots.items =
    subst (λ (s : Sheet). All (λ s'. IsSnapshot (book_of s) s'.place (g.C.CellRunner.kept_session s'.version) (map g.C.CellRunner.change_of s'.pending.items)) c.self.inside.snapshots.items) c.self.view_is (c.self.invariant).1 in
    c.in_ok-replay_between.ensures b (record { records = ap (each_of g.C.CellRunner.recorded) c.deref-2.ensures.value ∙ run.run.records; distinct = run.run.distinct })
    (c.in_ok-from.ensures.session b (subst (All (λ s. IsSnapshot b s.place (g.C.CellRunner.kept_session s.version) (map g.C.CellRunner.change_of s.pending.items))) (sym c.deref.ensures.value) kept))
