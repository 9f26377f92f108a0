use Rattle.std.proofs.Common.{◌≡◌, ◌++◌, take, drop}
use Rattle.nd_model.specs.Indexing.Selecting as model
use Rattle.nd_index.specs.Basic.Items.{items_of}
use Rattle.nd_index.proofs.basic.full_index.fill.Given as goal

abbrev pub invariant-loop-at : goal.invariant-loop-at
invariant-loop-at l = model.filled_items l.missing (items_of l.items) ≡ items_of (take l.at l.items) ++ model.filled_items l.missing (items_of (drop l.at l.items))
