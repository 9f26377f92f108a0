use Rattle.std.proofs.Common.{◌≡◌, ◌∙◌, false, get_or, length, ap, sym, arith, Global}
use Rattle.std.proofs.lemmas.List.{length-map}
use Rattle.std.specs.declared.rc.Rc.{Rc}
use Rattle.nd_schedule.specs.declared.cells.source.KeptCell.{KeptCell}
use Rattle.nd_schedule.specs.Cells.Source.{cell_of, cells_of}
use Rattle.nd_schedule.proofs.cells.Free.{next_last}
use Rattle.nd_schedule.proofs.cells.Used.{fresh_is, next_at}
use Rattle.nd_schedule.proofs.cells.labels.fresh_label.Goals as goal

pub returns-then-least-cells-clause-label : goal.returns-then-least-cells-clause-label
returns-then-least-cells-clause-label c =
    let many : length (cells_of c.args.cells.now) ≡ length c.args.cells.now = length-map c.args.cells.now (λ (s : Rc KeptCell Global). cell_of s.value) in
    next_last c.args.least (cells_of c.args.cells.now) (next_at c.args.least (cells_of c.args.cells.now) c.requires) (omega (arith, many, c.if-least-cells.true))

pub returns-clause-label : goal.returns-clause-label
returns-clause-label c =
    let many : length (cells_of c.args.cells.now) ≡ length c.args.cells.now = length-map c.args.cells.now (λ (s : Rc KeptCell Global). cell_of s.value) in
    fresh_is c.deref.result.now (cells_of c.args.cells.now) c.args.least c.first_unused-label.result c.requires (ap length c.deref.ensures.value ∙ c.in_ok-used.ensures.count ∙ sym many)
    (λ n lt. ap (λ xs. get_or xs n false) c.deref.ensures.value ∙ c.in_ok-used.ensures.marks n (omega (arith, lt, many)))
    c.first_unused-label.ensures.behind c.first_unused-label.ensures.marked c.first_unused-label.ensures.unmarked
