use Rattle.std.proofs.Common.{◌≡◌, drop}
use Rattle.nd_index.specs.Basic.Items as basic
use Rattle.nd_eval.specs.Choosing.Indexing.{items_from}
use Rattle.nd_eval.proofs.choosing.Indexing.{behind}
use Rattle.nd_eval.proofs.choosing.indexes.items_of.Given as goal

abbrev pub invariant-loop-item : goal.invariant-loop-item
invariant-loop-item l = items_from l.fn.items ≡ behind (basic.items_of l.found.items) (items_from (drop l.item-index l.items))
