use Rattle.std.proofs.Common.{◌+◌, ◌++◌, [], ◌∷◌, List, map, append_assoc, subst, ap, ◌∙◌, sym, drop}
use Rattle.nd_model.specs.Making.Operand as model
use Rattle.nd_heap.specs.declared.value.Value.{Value}
use Rattle.nd_session.specs.Session.Live.{live}
use Rattle.nd_operation.specs.Operators.Contents.{operand_of}
use Rattle.nd_eval.specs.Uses.{IsHeld, operands_over}
use Rattle.nd_operation.proofs.operators.InTurn.{next_item, pushed}
use Rattle.nd_eval.proofs.operation.operands_in.Goals as goal

pub operand_in-requires : goal.operand_in-requires
operand_in-requires c =
    subst (λ v. IsHeld (live c.args.session.now) v) (sym c.value-item.is) (c.requires c.loop-value.value-index c.value-item.result c.loop-value-test.true)

pub loop-value-preserved : goal.loop-value-preserved
loop-value-preserved c =
    let bytes = (live c.args.session.now).bytes in
    let rest : List Value = drop (c.loop-value.value-index + 1) c.args.values.now in
    let done : List model.Operand = map operand_of c.loop-value.operands.items in
    let next = next_item c.args.values.now c.loop-value.value-index c.value-item.result c.loop-value-test.true c.value-item.is in
    ap (λ os. os ++ operands_over bytes rest) (pushed operand_of _ _ _ c.in_ok-push.ensures.items)
    ∙ append_assoc done (operand_of c.operand_in.result ∷ []) (operands_over bytes rest)
    ∙ ap (λ o. done ++ (o ∷ operands_over bytes rest)) c.operand_in.ensures
    ∙ ap (λ (vs : List Value). done ++ operands_over bytes vs) (sym next) ∙ c.loop-value.invariant
