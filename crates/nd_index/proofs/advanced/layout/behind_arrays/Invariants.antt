use Rattle.std.proofs.Common.{◌≡◌, drop}
use Rattle.nd_model.specs.Indexing.Advanced as model
use Rattle.nd_index.specs.Items.Items.{items_of}
use Rattle.nd_index.proofs.advanced.layout.behind_arrays.Given as goal

abbrev pub invariant-loop-number : goal.invariant-loop-number
invariant-loop-number l = model.behind_arrays (items_of l.items) ≡ model.behind_arrays (items_of (drop l.number l.items))
