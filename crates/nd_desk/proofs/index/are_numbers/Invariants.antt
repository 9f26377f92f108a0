use Rattle.std.proofs.Common.{◌≡◌, drop}
use Rattle.std.specs.List.{list_all}
use Rattle.nd_model.specs.Indexing.Index as model
use Rattle.nd_index.specs.Basic.Items as basic
use Rattle.nd_desk.proofs.index.are_numbers.Given as goal

abbrev pub invariant-loop-item : goal.invariant-loop-item
invariant-loop-item l = list_all model.is_number (basic.items_of l.fn.items) ≡ list_all model.is_number (basic.items_of (drop l.item-index l.items))
