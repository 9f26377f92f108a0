use Rattle.std.proofs.Common.{◌+◌, drop, sym, ap, ◌∙◌}
use Rattle.std.specs.Prelude.{is_ok, ◌||◌}
use Rattle.std.proofs.lemmas.List.Folds.{list_any-append}
use Rattle.nd_model.specs.Indexing.Index as model
use Rattle.nd_operation.proofs.operators.InTurn.{next_item}
use Rattle.nd_eval.specs.Choosing.Indexing.{operands_in, operands_in_item}
use Rattle.nd_eval.proofs.choosing.indexes.has_array.Goals as goal

pub returns-then-is_array_item : goal.returns-then-is_array_item
returns-then-is_array_item c =
    let xs = c.args.items.now in
    let k = c.loop-item.item-index in
    let next = next_item xs k c.item-item.result c.loop-item-test.true c.item-item.is in
    sym (c.loop-item.invariant ∙ ap (λ l. model.has_array (operands_in l)) next
    ∙ list_any-append (λ o. is_ok (model.array_of o)) (operands_in_item c.item-item.result) (operands_in (drop (k + 1) xs))
    ∙ ap (λ t. t || model.has_array (operands_in (drop (k + 1) xs))) (sym c.is_array_item.ensures ∙ c.if-is_array_item.true))

pub loop-item-preserved : goal.loop-item-preserved
loop-item-preserved c =
    let xs = c.args.items.now in
    let k = c.loop-item.item-index in
    let next = next_item xs k c.item-item.result c.loop-item-test.true c.item-item.is in
    c.loop-item.invariant ∙ ap (λ l. model.has_array (operands_in l)) next
    ∙ list_any-append (λ o. is_ok (model.array_of o)) (operands_in_item c.item-item.result) (operands_in (drop (k + 1) xs))
    ∙ ap (λ t. t || model.has_array (operands_in (drop (k + 1) xs))) (sym c.is_array_item.ensures ∙ c.if-is_array_item.false)
