use Rattle.std.proofs.Common.{◌+◌, [], ◌∷◌, drop, sym, ap, subst, ◌∙◌}
use Rattle.std.specs.List.{All}
use Rattle.nd_model.specs.Indexing.Selected.{HoldsAll}
use Rattle.nd_index.specs.Items.Items as fancy
use Rattle.nd_session.specs.Session.Live.{live}
use Rattle.nd_operation.specs.Refusals.Faults.{fault_of}
use Rattle.nd_eval.specs.Choosing.Indexing.{item_over, items_over}
use Rattle.nd_eval.proofs.choosing.Indexing.{behind, one_more, one_refused}
use Rattle.std.proofs.lemmas.List.Elements.{All-append, All-cons, All-nil}
use Rattle.nd_operation.proofs.operators.InTurn.{next_item, pushed}
use Rattle.nd_operation.proofs.refusals.Refusals.{makes_refused}
use Rattle.nd_eval.proofs.choosing.selections.items_in.Goals as goal

pub returns-in_err-item-clause-items : goal.returns-in_err-item-clause-items
returns-in_err-item-clause-items c =
    let bytes = (live c.args.session.now).bytes in
    let xs = c.args.items.now in
    let k = c.loop-item.item-index in
    let found = fancy.items_of c.loop-item.found.items in
    let f = c.in_err-item.field-0.0 in
    let next = next_item xs k c.item-item.result c.loop-item-test.true c.item-item.is in
    makes_refused (λ is. fancy.items_of is.items) (items_over bytes xs) f _ c.from_residual-in_err-item.ensures.1
    (c.loop-item.invariant.same ∙ (λ i. behind found (items_over bytes (next i)))
    ∙ one_refused found (item_over bytes c.item-item.result) (items_over bytes (drop (k + 1) xs)) (fault_of f) c.in_err-item.ensures.item)

pub loop-item-preserved : goal.loop-item-preserved
loop-item-preserved c =
    let bytes = (live c.args.session.now).bytes in
    let xs = c.args.items.now in
    let k = c.loop-item.item-index in
    let found = fancy.items_of c.loop-item.found.items in
    let next = next_item xs k c.item-item.result c.loop-item-test.true c.item-item.is in
    let rest = drop (k + 1) xs in
    let all = pushed fancy.item_of c.push.new.self.items c.loop-item.found.items c.in_ok-item.item c.in_ok-push.ensures.items in
    record {
      same = c.loop-item.invariant.same ∙ (λ i. behind found (items_over bytes (next i)))
          ∙ one_more found (item_over bytes c.item-item.result) (items_over bytes rest) (fancy.item_of c.in_ok-item.item) c.in_ok-item.ensures.item
          ∙ ap (λ l. behind l (items_over bytes rest)) (sym all);
      whole = subst (All HoldsAll) (sym all) (All-append HoldsAll found (fancy.item_of c.in_ok-item.item ∷ []) c.loop-item.invariant.whole (All-cons HoldsAll (fancy.item_of c.in_ok-item.item) [] c.in_ok-item.ensures.whole (All-nil HoldsAll)));
    }
