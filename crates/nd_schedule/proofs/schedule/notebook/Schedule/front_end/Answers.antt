use Rattle.std.proofs.Common.{◌≡◌, ◌≤◌, length, map, sym, ap, subst, ◌∙◌, arith}
use Rattle.std.specs.List.{All}
use Rattle.std.proofs.lemmas.List.{length-map}
use Rattle.nd_model.specs.Book.Book.{Book}
use Rattle.nd_model.specs.Book.Notebook.{Sheet, book_of}
use Rattle.nd_schedule.specs.Cells.Source.{cell_of, cells_of, sheet}
use Rattle.nd_schedule.specs.Schedule.Snapshot.{IsSnapshot, StandsBefore}
use Rattle.nd_schedule.proofs.schedule.Standing.{behind_same, if_some}
use Rattle.nd_schedule.proofs.schedule.notebook.Schedule.front_end.Goals as goal

pub invariant_of-self : goal.invariant_of-self
invariant_of-self g c = ((c.self.invariant).0, c.take_end.ensures.snapshots _ (c.self.invariant).1, (c.self.invariant).2)

pub invariant_of-self-in-Some : goal.invariant_of-self-in-Some
invariant_of-self-in-Some g c = ((c.self.invariant).0, c.take_end.ensures.snapshots _ (c.self.invariant).1, (c.self.invariant).2)

pub invariant_of-self-2 : goal.invariant_of-self-2
invariant_of-self-2 g c = ((c.self.invariant).0, c.take_end.ensures.snapshots _ (c.self.invariant).1, (c.self.invariant).2)

pub invariant_of-self-in_err-session-2 : goal.invariant_of-self-in_err-session-2
invariant_of-self-in_err-session-2 g c = ((c.self.invariant).0, c.take_end.ensures.snapshots _ (c.self.invariant).1, (c.self.invariant).2)

pub invariant_of-self-3 : goal.invariant_of-self-3
invariant_of-self-3 g c =
    let u : Sheet = sheet (cells_of c.self.inside.cells.items) (g.C.CellRunner.given c.self.inside.world) in
    let within : c.len-at.result ≤ length u.cells = omega (arith, length-map c.self.inside.cells.items (λ x. cell_of x.value), c.len-at.ensures) in (
      (c.self.invariant).0,
      c.put_fresh.ensures (book_of u) (book_of u) (behind_same (book_of u) c.len-at.result within ((c.self.invariant).0).run.distinct) c.in_ok-session-2.ensures.fresh (c.take_end.ensures.snapshots _ (c.self.invariant).1),
      (c.self.invariant).2,
    )

pub returns-in-Some-clause-session : goal.returns-in-Some-clause-session
returns-in-Some-clause-session g c =
    let inside : length c.self.inside.cells.items ≡ length c.args.self.now.cells = sym (length-map c.self.inside.cells.items (λ x. cell_of x.value)) ∙ ap (λ (s : Sheet). length s.cells) c.self.view_is in
    let at_is : c.len-at.result ≡ length c.args.self.now.cells = omega (arith, inside, c.len-at.ensures) in
    let kept : All (λ x. IsSnapshot (book_of c.args.self.now) x.place (g.C.CellRunner.kept_session x.version) (map g.C.CellRunner.change_of x.pending.items)) c.self.inside.snapshots.items =
    subst (λ (s : Sheet). All (λ x. IsSnapshot (book_of s) x.place (g.C.CellRunner.kept_session x.version) (map g.C.CellRunner.change_of x.pending.items)) c.self.inside.snapshots.items) c.self.view_is (c.self.invariant).1 in
    subst (λ n. StandsBefore (book_of c.args.self.now) n (g.C.CellRunner.session_of c.in-Some.session)) at_is
    (if_some (λ h. (b : Book) → All (λ x. IsSnapshot b x.place (g.C.CellRunner.kept_session x.version) (map g.C.CellRunner.change_of x.pending.items)) c.self.inside.snapshots.items → StandsBefore b c.len-at.result (g.C.CellRunner.session_of h)) c.in_ok-session.field-0 _ c.in-Some.is c.in_ok-session.ensures.session
    (book_of c.args.self.now) kept)

pub returns-clause-session : goal.returns-clause-session
returns-clause-session g c =
    let u : Sheet = sheet (cells_of c.self.inside.cells.items) (g.C.CellRunner.given c.self.inside.world) in
    let at_is : c.len-at.result ≡ length u.cells = omega (arith, length-map c.self.inside.cells.items (λ x. cell_of x.value), c.len-at.ensures) in
    subst (λ (s : Sheet). StandsBefore (book_of s) (length s.cells) (g.C.CellRunner.session_of c.in_ok-session-2.field-0.session)) c.self.view_is
    (subst (λ n. StandsBefore (book_of u) n (g.C.CellRunner.session_of c.in_ok-session-2.field-0.session)) at_is c.in_ok-session-2.ensures.session)
