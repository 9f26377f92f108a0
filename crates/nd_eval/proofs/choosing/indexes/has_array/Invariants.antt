use Rattle.std.proofs.Common.{◌≡◌, drop}
use Rattle.nd_model.specs.Indexing.Index as model
use Rattle.nd_eval.specs.Choosing.Indexing.{operands_in}
use Rattle.nd_eval.proofs.choosing.indexes.has_array.Given as goal

abbrev pub invariant-loop-item : goal.invariant-loop-item
invariant-loop-item l = model.has_array (operands_in l.fn.items) ≡ model.has_array (operands_in (drop l.item-index l.items))
