use Rattle.nd_model.specs.Making.Reductions.{reduced_numbers}
use Rattle.nd_syntax.specs.Trees.Calls.{reduction_of}
use Rattle.nd_operation.specs.Operators.Contents.{elements_operand}
use Rattle.nd_operation.proofs.operators.NumberArrays.{gives_numbers}
use Rattle.nd_eval.proofs.reducing.Made.{array_made, not_folded, reduced_valid}
use Rattle.nd_eval.proofs.reducing.numbers.reduce_elements.Goals as goal

pub new_numbers-requires : goal.new_numbers-requires
new_numbers-requires c =
    let o = elements_operand c.args.elements.now in
    let made = array_made (reduced_numbers (reduction_of c.args.reduction) c.args.axis c.args.keepdims o) (reduced_valid (reduction_of c.args.reduction) c.args.axis c.args.keepdims o) c.in-Ok.view c.in-Ok.block c.in-Ok.ensures c.shape-shape.ensures.limits in
    (made.0, made.2)

pub returns-in-Ok : goal.returns-in-Ok
returns-in-Ok c =
    let o = elements_operand c.args.elements.now in
    let made = array_made (reduced_numbers (reduction_of c.args.reduction) c.args.axis c.args.keepdims o) (reduced_valid (reduction_of c.args.reduction) c.args.axis c.args.keepdims o) c.in-Ok.view c.in-Ok.block c.in-Ok.ensures c.shape-shape.ensures.limits in
    gives_numbers (reduced_numbers (reduction_of c.args.reduction) c.args.axis c.args.keepdims o) made.0 c.new_numbers.result made.1 (c.new_numbers.ensures.gives made.0 made.2)

pub returns-in-Err : goal.returns-in-Err
returns-in-Err c =
    let o = elements_operand c.args.elements.now in
    not_folded (reduced_numbers (reduction_of c.args.reduction) c.args.axis c.args.keepdims o) c.in-Err.fault c.stop_of.result c.stop_of.ensures c.in-Err.ensures
