use Rattle.std.proofs.Common.{◌≡◌, drop}
use Rattle.std.specs.List.{list_any}
use Rattle.nd_model.specs.Indexing.Advanced as model
use Rattle.nd_index.specs.Items.Items.{items_of}
use Rattle.nd_index.proofs.advanced.layout.has_array.Given as goal

abbrev pub invariant-loop-item : goal.invariant-loop-item
invariant-loop-item l = list_any model.is_array (items_of l.items) ≡ list_any model.is_array (items_of (drop l.item-index l.items))
