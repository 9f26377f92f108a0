use Rattle.std.proofs.Common.{◌+◌, List, ap, ◌∙◌, sym, drop}
use Rattle.nd_heap.specs.declared.value.Value.{Value}
use Rattle.nd_session.specs.Session.Live.{live}
use Rattle.nd_eval.specs.Uses.{all_marked}
use Rattle.nd_operation.proofs.operators.InTurn.{next_item}
use Rattle.nd_eval.proofs.operation.mark_operands.Goals as goal

pub loop-value-preserved : goal.loop-value-preserved
loop-value-preserved c =
    let next = next_item c.args.values.now c.loop-value.value-index c.value-item.result c.loop-value-test.true c.value-item.is in
    ap (all_marked (drop (c.loop-value.value-index + 1) c.args.values.now)) c.in_ok-mark_operand.ensures
    ∙ ap (λ (vs : List Value). all_marked vs (live c.loop-value.session)) (sym next) ∙ c.loop-value.invariant
