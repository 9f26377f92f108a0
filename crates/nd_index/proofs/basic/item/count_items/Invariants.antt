use Rattle.std.proofs.Common.{◌≡◌, ◌+◌, ◌≤◌, ◌*◌, drop}
use Rattle.nd_model.specs.Indexing.Selecting as model
use Rattle.nd_index.specs.Basic.Items.{items_of, kept_in}
use Rattle.nd_index.proofs.basic.item.count_items.Given as goal

abbrev pub invariant-loop-item : goal.invariant-loop-item
invariant-loop-item l = record {
  ellipses : l.counts.ellipses + model.ellipses_in (items_of (drop l.item-index l.items)) ≡ model.ellipses_in (items_of l.items);
  axes : l.counts.axes + model.axes_in (items_of (drop l.item-index l.items)) ≡ model.axes_in (items_of l.items);
  kept : l.counts.kept + kept_in (items_of (drop l.item-index l.items)) ≡ kept_in (items_of l.items);
  within : l.counts.ellipses + l.counts.axes + l.counts.kept ≤ 2 * l.item-index;
  fewer : l.counts.kept ≤ l.item-index;
}
