use Rattle.std.proofs.Common.{◌≡◌, ◌+◌, ◌*◌, ◌≤◌, drop, take}
use Rattle.std.specs.List.{All}
use Rattle.nd_model.specs.Indexing.Advanced as model
use Rattle.nd_model.specs.Indexing.Selected.{HoldsAll}
use Rattle.nd_index.specs.Items.Items.{items_of}
use Rattle.nd_index.proofs.items.item.count_axes.Given as goal

abbrev pub invariant-loop-item : goal.invariant-loop-item
invariant-loop-item l = record {
  total : l.count + model.axes_in 0 (items_of (drop l.item-index l.items)) ≡ model.axes_in 0 (items_of l.items);
  few : l.count ≤ l.item-index * 32;
  whole : All HoldsAll (items_of (take l.item-index l.items));
}
