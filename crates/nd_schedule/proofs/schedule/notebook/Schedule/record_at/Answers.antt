use Rattle.std.proofs.Common.{◌≡◌, ◌∙◌, length, refl, ap, subst, arith}
use Rattle.nd_model.specs.Book.Notebook.{Sheet, book_of}
use Rattle.nd_schedule.specs.Cells.Shared.{each_of}
use Rattle.nd_schedule.specs.Schedule.Sweep.{IsRun}
use Rattle.nd_schedule.proofs.schedule.Kept.{as_many, told_there}
use Rattle.nd_schedule.proofs.schedule.Sweeping.{record_there}
use Rattle.nd_schedule.proofs.schedule.notebook.Schedule.record_at.Goals as goal

pub index-requires : goal.index-requires
index-requires g c =
    let all : IsRun (book_of c.args.self.now) (each_of g.C.CellRunner.recorded c.self.inside.records.items) = subst (λ (s : Sheet). IsRun (book_of s) (each_of g.C.CellRunner.recorded c.self.inside.records.items)) c.self.view_is (c.self.invariant.0).run in
    let many : length c.self.inside.records.items ≡ length c.args.self.now.cells = as_many (λ r. g.C.CellRunner.recorded r.value) (book_of c.args.self.now) c.self.inside.records.items all.records in
    omega (arith, many, c.requires)

pub returns-clause-told : goal.returns-clause-told
returns-clause-told g c =
    let all : IsRun (book_of c.args.self.now) (each_of g.C.CellRunner.recorded c.self.inside.records.items) = subst (λ (s : Sheet). IsRun (book_of s) (each_of g.C.CellRunner.recorded c.self.inside.records.items)) c.self.view_is (c.self.invariant.0).run in
    told_there (λ r. g.C.CellRunner.recorded r.value) (book_of c.args.self.now) c.self.inside.records.items c.index.result.now c.args.at _ _ all.records c.requires c.index.ensures
    (ap g.C.CellRunner.recorded c.deref.ensures) refl

pub returns-clause-recorded : goal.returns-clause-recorded
returns-clause-recorded g c =
    let all : IsRun (book_of c.args.self.now) (each_of g.C.CellRunner.recorded c.self.inside.records.items) = subst (λ (s : Sheet). IsRun (book_of s) (each_of g.C.CellRunner.recorded c.self.inside.records.items)) c.self.view_is (c.self.invariant.0).run in
    ap g.C.CellRunner.recorded c.deref.ensures ∙ record_there (λ r. g.C.CellRunner.recorded r.value) (book_of c.args.self.now) c.self.inside.records.items c.index.result.now c.args.at all.records c.requires c.index.ensures
