use Rattle.std.proofs.Common.{sym, subst, Err, ◌∙◌}
use Rattle.nd_model.specs.Making.Augmenting.{in_place_kind}
use Rattle.nd_ufunc.specs.Elementwise.Faults.{Makes}
use Rattle.nd_syntax.specs.Trees.Syntax.{binary_op}
use Rattle.nd_types.specs.Kinds.{kind_of}
use Rattle.nd_operation.specs.Operators.Contents.{operand_of}
use Rattle.nd_operation.proofs.operators.NumberArrays.{in_place_alike}
use Rattle.nd_operation.proofs.refusals.Refusals.{makes_mapped}
use Rattle.nd_operation.proofs.operators.elementwise.kind_in_place.Goals as goal

pub returns-in_err-kind : goal.returns-in_err-kind
returns-in_err-kind c =
    let op = binary_op c.args.op in
    let g = c.args.target.now in
    let o = operand_of c.args.operand.now in
    makes_mapped kind_of kind_of (in_place_kind op g o) c.in_err-kind.field-0.0 _ c.from_residual.ensures.1
    (subst (λ r. Makes kind_of (Err c.in_err-kind.field-0.0) r) (in_place_alike op g o _ c.argument_of.ensures.value) c.in_err-kind.ensures)

pub returns : goal.returns
returns c =
    let op = binary_op c.args.op in
    let g = c.args.target.now in
    let o = operand_of c.args.operand.now in
    sym (in_place_alike op g o _ c.argument_of.ensures.value) ∙ c.in_ok-kind.ensures
