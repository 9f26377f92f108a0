use Rattle.std.proofs.Common.{◌≡◌, drop}
use Rattle.std.specs.List.{list_any}
use Rattle.nd_model.specs.Indexing.Selecting as model
use Rattle.nd_index.specs.Basic.Items.{items_of}
use Rattle.nd_index.proofs.basic.item.has_zero_step.Given as goal

abbrev pub invariant-loop-item : goal.invariant-loop-item
invariant-loop-item l = list_any model.has_zero_step (items_of l.items) ≡ list_any model.has_zero_step (items_of (drop l.item-index l.items))
