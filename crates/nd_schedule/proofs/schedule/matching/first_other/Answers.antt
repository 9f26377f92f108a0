use Rattle.std.proofs.Common.{◌<◌, length, refl, sym, ◌∙◌, arith}
use Rattle.std.proofs.lemmas.List.{length-map}
use Rattle.nd_model.specs.Book.Book.{no_cell}
use Rattle.nd_schedule.specs.Cells.Source.{cell_of, cells_of}
use Rattle.nd_schedule.proofs.schedule.Joining.{take_more}
use Rattle.nd_schedule.proofs.schedule.Visiting.{cell_there}
use Rattle.nd_schedule.proofs.schedule.matching.first_other.Goals as goal

pub loop-k-preserved : goal.loop-k-preserved
loop-k-preserved c =
    let lt : c.loop-k.k < length c.args.cells.now = omega (arith, c.loop-k-test.true, c.min-count.ensures) in
    let less : c.loop-k.k < length c.args.drafted.now = omega (arith, c.loop-k-test.true, c.min-count.ensures) in
    take_more (cells_of c.args.cells.now) (cells_of c.args.drafted.now) c.loop-k.k no_cell c.loop-k.invariant (omega (arith, lt, length-map c.args.cells.now (λ s. cell_of s.value))) (omega (arith, less, length-map c.args.drafted.now (λ s. cell_of s.value)))
    (sym (cell_there c.args.cells.now c.loop-k.k c.index-cells-k.result c.deref.result.now lt c.index-cells-k.is c.deref.ensures) ∙ c.if-not-are_same.ensures refl
    ∙ cell_there c.args.drafted.now c.loop-k.k c.index-drafted-k.result c.deref-in-loop-k.result.now less c.index-drafted-k.is c.deref-in-loop-k.ensures)
