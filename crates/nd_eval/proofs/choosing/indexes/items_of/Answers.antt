use Rattle.std.proofs.Common.{◌+◌, drop, sym, ap, ◌∙◌}
use Rattle.nd_index.specs.Basic.Items as basic
use Rattle.nd_operation.specs.Refusals.Faults.{fault_of}
use Rattle.nd_eval.specs.Choosing.Indexing.{item_from, items_from}
use Rattle.nd_eval.proofs.choosing.Indexing.{behind, one_more, one_refused}
use Rattle.nd_operation.proofs.operators.InTurn.{next_item, pushed}
use Rattle.nd_operation.proofs.refusals.Refusals.{makes_refused}
use Rattle.nd_eval.proofs.choosing.indexes.items_of.Goals as goal

pub returns-in_err-item : goal.returns-in_err-item
returns-in_err-item c =
    let xs = c.args.items.now in
    let k = c.loop-item.item-index in
    let found = basic.items_of c.loop-item.found.items in
    let f = c.in_err-item.field-0.0 in
    let next = next_item xs k c.item-item.result c.loop-item-test.true c.item-item.is in
    makes_refused (λ is. basic.items_of is.items) (items_from xs) f _ c.from_residual-in_err-item.ensures.1
    (c.loop-item.invariant ∙ (λ i. behind found (items_from (next i)))
    ∙ one_refused found (item_from c.item-item.result) (items_from (drop (k + 1) xs)) (fault_of f) c.in_err-item.ensures)

pub loop-item-preserved : goal.loop-item-preserved
loop-item-preserved c =
    let xs = c.args.items.now in
    let k = c.loop-item.item-index in
    let found = basic.items_of c.loop-item.found.items in
    let next = next_item xs k c.item-item.result c.loop-item-test.true c.item-item.is in
    let rest = drop (k + 1) xs in
    c.loop-item.invariant ∙ (λ i. behind found (items_from (next i)))
    ∙ one_more found (item_from c.item-item.result) (items_from rest) (basic.item_of c.in_ok-item.item) c.in_ok-item.ensures
    ∙ ap (λ l. behind l (items_from rest)) (sym (pushed basic.item_of c.push.new.self.items c.loop-item.found.items c.in_ok-item.item c.in_ok-push.ensures.items))
