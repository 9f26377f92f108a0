use Rattle.std.proofs.Common.{◌≡◌, ◌+◌, ◌≤◌, ◌++◌, drop}
use Rattle.std.specs.Prelude.{None}
use Rattle.nd_model.specs.Indexing.Advanced as model
use Rattle.nd_index.specs.Items.Items.{items_of}
use Rattle.nd_index.specs.Advanced.Takes.{takes_of}
use Rattle.nd_index.proofs.advanced.takes.takes.Given as goal

abbrev pub invariant-loop-item : goal.invariant-loop-item
invariant-loop-item l = record {
  done : takes_of l.takes.items ++ model.takes_in l.missing l.axis l.sizes (items_of (drop l.item-index l.items)) ≡ model.takes_in l.missing 0 l.sizes (items_of l.items);
  few : l.axis + model.axes_in l.missing (items_of (drop l.item-index l.items)) ≤ 64;
  inside : model.first_fault (model.bounds_fault l.sizes) l.missing l.axis (items_of (drop l.item-index l.items)) ≡ None;
}
