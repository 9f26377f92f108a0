use Rattle.std.proofs.Common.{◌≡◌, subst, Ok, Err}
use Rattle.nd_model.specs.Making.Elementwise as elementwise
use Rattle.nd_ufunc.specs.Scalar.Ufuncs.{ufunc_of}
use Rattle.nd_ufunc.specs.Elementwise.Made.{array_of}
use Rattle.nd_ufunc.specs.Elementwise.Faults.{Makes}
use Rattle.nd_operation.specs.Operators.Contents.{operand_of}
use Rattle.nd_operation.proofs.operators.NumberArrays.{array_is, binary_are, exits_map, exits_operand, gives_numbers, mapped_two, stands_for}
use Rattle.nd_operation.proofs.operators.elementwise.map_two.Goals as goal

pub returns-in_err-view-clause-new : goal.returns-in_err-view-clause-new
returns-in_err-view-clause-new c =
    let f = ufunc_of c.args.ufunc in
    let x = operand_of c.args.left.now in
    let y = operand_of c.args.right.now in
    exits_map (elementwise.binary_numbers f x y) c.in_err-view.field-0.0 _ c.from_residual.ensures.1
    (subst (λ r. Makes (λ m. m) (Err c.in_err-view.field-0.0) (array_of r)) (mapped_two f x y _ _ c.argument_of.ensures.value c.argument_of-2.ensures.value) c.in_err-view.ensures)

pub returns-in_err-view-clause-operand : goal.returns-in_err-view-clause-operand
returns-in_err-view-clause-operand c =
    let f = ufunc_of c.args.ufunc in
    let x = operand_of c.args.left.now in
    let y = operand_of c.args.right.now in
    exits_operand (elementwise.binary_numbers f x y) c.in_err-view.field-0.0 _ c.from_residual.ensures.1
    (subst (λ r. Makes (λ m. m) (Err c.in_err-view.field-0.0) (array_of r)) (mapped_two f x y _ _ c.argument_of.ensures.value c.argument_of-2.ensures.value) c.in_err-view.ensures)

pub new_numbers-requires : goal.new_numbers-requires
new_numbers-requires c =
    let f = ufunc_of c.args.ufunc in
    let x = operand_of c.args.left.now in
    let y = operand_of c.args.right.now in
    let made = array_is (elementwise.binary_numbers f x y) (binary_are f x y) c.in_ok-view.view c.in_ok-view.block
    (subst (λ r. array_of r ≡ Ok (c.in_ok-view.view, c.in_ok-view.block)) (mapped_two f x y _ _ c.argument_of.ensures.value c.argument_of-2.ensures.value) c.in_ok-view.ensures) in
    (made.0, made.2)

pub returns-clause-new : goal.returns-clause-new
returns-clause-new c =
    let f = ufunc_of c.args.ufunc in
    let x = operand_of c.args.left.now in
    let y = operand_of c.args.right.now in
    let made = array_is (elementwise.binary_numbers f x y) (binary_are f x y) c.in_ok-view.view c.in_ok-view.block
    (subst (λ r. array_of r ≡ Ok (c.in_ok-view.view, c.in_ok-view.block)) (mapped_two f x y _ _ c.argument_of.ensures.value c.argument_of-2.ensures.value) c.in_ok-view.ensures) in
    gives_numbers (elementwise.binary_numbers f x y) made.0 c.new_numbers.result made.1 (c.new_numbers.ensures.gives made.0 made.2)

pub returns-clause-operand : goal.returns-clause-operand
returns-clause-operand c =
    let f = ufunc_of c.args.ufunc in
    let x = operand_of c.args.left.now in
    let y = operand_of c.args.right.now in
    let made = array_is (elementwise.binary_numbers f x y) (binary_are f x y) c.in_ok-view.view c.in_ok-view.block
    (subst (λ r. array_of r ≡ Ok (c.in_ok-view.view, c.in_ok-view.block)) (mapped_two f x y _ _ c.argument_of.ensures.value c.argument_of-2.ensures.value) c.in_ok-view.ensures) in
    stands_for (elementwise.binary_numbers f x y) made.0 c.new_numbers.result made.1 (c.new_numbers.ensures.operand made.0 made.2)
