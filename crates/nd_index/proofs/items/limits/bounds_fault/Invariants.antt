use Rattle.std.proofs.Common.{◌≡◌, ◌+◌, ◌≤◌, drop}
use Rattle.nd_model.specs.Indexing.Advanced as model
use Rattle.nd_index.specs.Items.Items.{items_of}
use Rattle.nd_index.proofs.items.limits.bounds_fault.Given as goal

abbrev pub invariant-loop-item : goal.invariant-loop-item
invariant-loop-item l = record {
  fault : model.first_fault (model.bounds_fault l.sizes) l.missing 0 (items_of l.items)
      ≡ model.first_fault (model.bounds_fault l.sizes) l.missing l.axis (items_of (drop l.item-index l.items));
  few : l.axis + model.axes_in l.missing (items_of (drop l.item-index l.items)) ≤ 64;
}
