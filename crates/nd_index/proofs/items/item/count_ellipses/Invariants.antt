use Rattle.std.proofs.Common.{◌≡◌, ◌+◌, ◌≤◌, drop}
use Rattle.nd_model.specs.Indexing.Advanced as model
use Rattle.nd_index.specs.Items.Items.{items_of}
use Rattle.nd_index.proofs.items.item.count_ellipses.Given as goal

abbrev pub invariant-loop-item : goal.invariant-loop-item
invariant-loop-item l = record {
  total : l.count + model.ellipses_in (items_of (drop l.item-index l.items)) ≡ model.ellipses_in (items_of l.items);
  few : l.count ≤ l.item-index;
}
