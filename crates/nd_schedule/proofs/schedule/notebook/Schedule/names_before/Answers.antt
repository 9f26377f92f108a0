use Rattle.std.proofs.Common.{◌≡◌, ◌<◌, length, sym, ap, subst, ◌∙◌, arith}
use Rattle.nd_model.specs.Book.Notebook.{Sheet, book_of}
use Rattle.nd_schedule.specs.Cells.Shared.{each_of}
use Rattle.nd_schedule.specs.Schedule.Sweep.{IsRun}
use Rattle.nd_schedule.proofs.schedule.Kept.{as_many}
use Rattle.nd_schedule.proofs.schedule.Standing.{names_next}
use Rattle.nd_schedule.proofs.schedule.Sweeping.{record_there}
use Rattle.nd_schedule.proofs.schedule.notebook.Schedule.names_before.Goals as goal

pub index-requires : goal.index-requires
index-requires g c =
    let all : IsRun (book_of c.args.self.now) (each_of g.C.CellRunner.recorded c.self.inside.records.items) = subst (λ (s : Sheet). IsRun (book_of s) (each_of g.C.CellRunner.recorded c.self.inside.records.items)) c.self.view_is (c.self.invariant.0).run in
    let many : length c.self.inside.records.items ≡ length c.args.self.now.cells = as_many (λ r. g.C.CellRunner.recorded r.value) (book_of c.args.self.now) c.self.inside.records.items all.records in
    omega (arith, many, c.requires)

pub loop-k-init : goal.loop-k-init
loop-k-init g c = sym c.no_order-order.ensures

pub loop-k-preserved : goal.loop-k-preserved
loop-k-preserved g c =
    let all : IsRun (book_of c.args.self.now) (each_of g.C.CellRunner.recorded c.self.inside.records.items) = subst (λ (s : Sheet). IsRun (book_of s) (each_of g.C.CellRunner.recorded c.self.inside.records.items)) c.self.view_is (c.self.invariant.0).run in
    let lt : c.loop-k.k < length c.args.self.now.cells = omega (arith, c.requires) in
    names_next (book_of c.args.self.now) all.distinct c.loop-k.k lt (g.C.CellRunner.recorded c.deref.result.now) (g.C.CellRunner.order_of c.loop-k.order) (g.C.CellRunner.order_of c.note_names.new.order)
    (ap g.C.CellRunner.recorded c.deref.ensures ∙ record_there (λ r. g.C.CellRunner.recorded r.value) (book_of c.args.self.now) c.self.inside.records.items c.index.result.now c.loop-k.k all.records lt c.index.ensures)
    c.loop-k.invariant c.in_ok-note_names.ensures
