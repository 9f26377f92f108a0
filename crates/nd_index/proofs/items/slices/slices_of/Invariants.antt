use Rattle.std.proofs.Common.{◌≡◌, take}
use Rattle.nd_model.specs.Indexing.Advanced as model
use Rattle.nd_index.specs.Items.Items.{items_of}
use Rattle.nd_index.proofs.items.slices.slices_of.Given as goal

abbrev pub invariant-loop-item : goal.invariant-loop-item
invariant-loop-item l = l.slices ≡ model.slices_in (items_of (take l.item-index l.items))
