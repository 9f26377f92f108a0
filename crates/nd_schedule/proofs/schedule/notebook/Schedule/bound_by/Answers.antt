use Rattle.std.proofs.Common.{◌≡◌, length, ap, subst, ◌∙◌, arith}
use Rattle.nd_model.specs.Book.Notebook.{Sheet, book_of}
use Rattle.nd_schedule.specs.Cells.Shared.{each_of}
use Rattle.nd_schedule.specs.Schedule.Sweep.{IsRun}
use Rattle.nd_schedule.proofs.schedule.Kept.{as_many, bound_next}
use Rattle.nd_schedule.proofs.schedule.Sweeping.{record_there}
use Rattle.nd_schedule.proofs.schedule.notebook.Schedule.bound_by.Goals as goal

pub index-requires : goal.index-requires
index-requires g c =
    let all : IsRun (book_of c.args.self.now) (each_of g.C.CellRunner.recorded c.self.inside.records.items) = subst (λ (s : Sheet). IsRun (book_of s) (each_of g.C.CellRunner.recorded c.self.inside.records.items)) c.self.view_is (c.self.invariant.0).run in
    let many : length c.self.inside.records.items ≡ length c.args.self.now.cells = as_many (λ r. g.C.CellRunner.recorded r.value) (book_of c.args.self.now) c.self.inside.records.items all.records in
    omega (arith, many, c.requires)

pub returns : goal.returns
returns g c =
    let all : IsRun (book_of c.args.self.now) (each_of g.C.CellRunner.recorded c.self.inside.records.items) = subst (λ (s : Sheet). IsRun (book_of s) (each_of g.C.CellRunner.recorded c.self.inside.records.items)) c.self.view_is (c.self.invariant.0).run in
    bound_next (book_of c.args.self.now) all.distinct c.args.at (g.C.CellRunner.recorded c.deref.result.now) c.args.name.now c.last_of.result c.requires
    (ap g.C.CellRunner.recorded c.deref.ensures ∙ record_there (λ r. g.C.CellRunner.recorded r.value) (book_of c.args.self.now) c.self.inside.records.items c.index.result.now c.args.at all.records c.requires c.index.ensures)
    c.last_of.ensures
