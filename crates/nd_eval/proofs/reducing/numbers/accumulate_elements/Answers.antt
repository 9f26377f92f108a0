use Rattle.std.proofs.Common.{Ok, Err, sym, subst}
use Rattle.nd_model.specs.Making.Elementwise.{numbers_made}
use Rattle.nd_model.specs.Making.Reductions.{accumulated_numbers}
use Rattle.nd_syntax.specs.Trees.Calls.{reduction_of}
use Rattle.nd_reduce.specs.Axes.Made.{array_operand, contents_over}
use Rattle.nd_operation.specs.Operators.New.{MakesNew}
use Rattle.nd_operation.proofs.operators.NumberArrays.{gives_numbers}
use Rattle.nd_eval.proofs.reducing.Made.{array_made, not_folded, accumulated_valid, row_accumulated}
use Rattle.nd_eval.proofs.reducing.numbers.accumulate_elements.Goals as goal

pub new_numbers-requires : goal.new_numbers-requires
new_numbers-requires c =
    let o = array_operand c.args.elements.now.view.now c.args.elements.now.block.now in
    let made = array_made (accumulated_numbers (reduction_of c.args.reduction) c.args.axis o) (accumulated_valid (reduction_of c.args.reduction) c.args.axis o) c.in-Ok.view c.in-Ok.block c.in-Ok.ensures c.shape-shape.ensures.limits in
    (made.0, made.2)

pub returns-in-Ok : goal.returns-in-Ok
returns-in-Ok c =
    let g = c.args.elements.now.view.now in
    let block = c.args.elements.now.block.now in
    let o = array_operand g block in
    let made = array_made (accumulated_numbers (reduction_of c.args.reduction) c.args.axis o) (accumulated_valid (reduction_of c.args.reduction) c.args.axis o) c.in-Ok.view c.in-Ok.block c.in-Ok.ensures c.shape-shape.ensures.limits in
    subst (λ n. MakesNew (Ok c.new_numbers.result) (numbers_made n)) (sym (row_accumulated (reduction_of c.args.reduction) c.args.axis c.args.elements.now.is_row g (contents_over g block)))
    (gives_numbers (accumulated_numbers (reduction_of c.args.reduction) c.args.axis o) made.0 c.new_numbers.result made.1 (c.new_numbers.ensures.gives made.0 made.2))

pub returns-in-Err : goal.returns-in-Err
returns-in-Err c =
    let g = c.args.elements.now.view.now in
    let block = c.args.elements.now.block.now in
    let o = array_operand g block in
    subst (λ n. MakesNew (Err c.stop_of.result) (numbers_made n)) (sym (row_accumulated (reduction_of c.args.reduction) c.args.axis c.args.elements.now.is_row g (contents_over g block)))
    (not_folded (accumulated_numbers (reduction_of c.args.reduction) c.args.axis o) c.in-Err.fault c.stop_of.result c.stop_of.ensures c.in-Err.ensures)
