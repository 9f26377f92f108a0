use Rattle.std.proofs.Common.{◌<◌, length, take, ap, ◌∙◌, arith}
use Rattle.std.proofs.lemmas.List.Folds.{flat_map-map, length-flat_map-take}
use Rattle.nd_model.specs.Indexing.Advanced as model
use Rattle.nd_index.specs.Items.Items.{item_of}
use Rattle.nd_index.specs.declared.items.item.Item.{Item}
use Rattle.nd_index.proofs.items.slices.slices_of.Goals as goal

pub push_item-requires : goal.push_item-requires
push_item-requires c =
    let items = c.args.items.now in let k = c.loop-item.item-index in let x = c.item-item.result in
    let f = λ (i : Item). model.slices_of (item_of i) in
    let lt : k < length items = omega (arith, c.loop-item-test.true) in
    omega (
      arith,
      c.requires,
      length-flat_map-take f items k x lt,
      ap length (c.loop-item.invariant ∙ flat_map-map model.slices_of item_of (take k items)),
      ap length (flat_map-map model.slices_of item_of items),
      ap (λ i. length (f i)) c.item-item.is,
    )
