use Rattle.std.proofs.Common.{◌+◌, ◌<◌, ◌∷◌, length, drop, sym, ap, ◌∙◌, arith}
use Rattle.nd_index.specs.Items.Items.{item_of, items_of}
use Rattle.nd_index.proofs.items.Items.{inside_first}
use Rattle.nd_places.proofs.Fronts.{drop_one}
use Rattle.nd_index.proofs.advanced.takes.takes.Goals as goal

pub push_takes-requires-clause-inside : goal.push_takes-requires-clause-inside
push_takes-requires-clause-inside c =
    let items = c.args.items.now in let k = c.loop-item.item-index in
    let lt : k < length items = omega (arith, c.loop-item-test.true) in
    inside_first c.args.sizes.now c.args.missing c.loop-item.axis c.length_of.result (item_of c.item-item.result) (items_of (drop (k + 1) items)) (items_of (drop k items))
    (ap items_of (drop_one items k c.item-item.result lt) ∙ ap (λ i. item_of i ∷ items_of (drop (k + 1) items)) (sym c.item-item.is)) c.length_of.ensures c.loop-item.invariant.inside
