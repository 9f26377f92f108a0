use Rattle.std.proofs.Common.{◌≡◌, subst, Ok, Err}
use Rattle.nd_model.specs.Making.Elementwise as elementwise
use Rattle.nd_ufunc.specs.Scalar.Ufuncs.{single_of}
use Rattle.nd_ufunc.specs.Elementwise.Made.{array_of}
use Rattle.nd_ufunc.specs.Elementwise.Faults.{Makes}
use Rattle.nd_operation.specs.Operators.Contents.{operand_of}
use Rattle.nd_operation.proofs.operators.NumberArrays.{array_is, single_are, exits_map, gives_numbers, mapped_one}
use Rattle.nd_operation.proofs.operators.elementwise.map_one.Goals as goal

pub returns-in_err-view : goal.returns-in_err-view
returns-in_err-view c =
    let op = single_of c.args.op in
    let x = operand_of c.args.operand.now in
    exits_map (elementwise.single_numbers op x) c.in_err-view.field-0.0 _ c.from_residual.ensures.1
    (subst (λ r. Makes (λ m. m) (Err c.in_err-view.field-0.0) (array_of r)) (mapped_one op x _ c.argument_of.ensures.value) c.in_err-view.ensures)

pub new_numbers-requires : goal.new_numbers-requires
new_numbers-requires c =
    let op = single_of c.args.op in
    let x = operand_of c.args.operand.now in
    let made = array_is (elementwise.single_numbers op x) (single_are op x) c.in_ok-view.view c.in_ok-view.block
    (subst (λ r. array_of r ≡ Ok (c.in_ok-view.view, c.in_ok-view.block)) (mapped_one op x _ c.argument_of.ensures.value) c.in_ok-view.ensures) in
    (made.0, made.2)

pub returns : goal.returns
returns c =
    let op = single_of c.args.op in
    let x = operand_of c.args.operand.now in
    let made = array_is (elementwise.single_numbers op x) (single_are op x) c.in_ok-view.view c.in_ok-view.block
    (subst (λ r. array_of r ≡ Ok (c.in_ok-view.view, c.in_ok-view.block)) (mapped_one op x _ c.argument_of.ensures.value) c.in_ok-view.ensures) in
    gives_numbers (elementwise.single_numbers op x) made.0 c.new_numbers.result made.1 (c.new_numbers.ensures.gives made.0 made.2)
