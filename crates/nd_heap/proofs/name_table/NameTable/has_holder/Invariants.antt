use Rattle.std.proofs.Common.{◌≡◌, take, false}
use Rattle.nd_model.specs.Cells.Session as model
use Rattle.nd_heap.specs.Values.{base_of}
use Rattle.nd_heap.proofs.name_table.NameTable.has_holder.Given as goal

abbrev pub invariant-loop-i : goal.invariant-loop-i
invariant-loop-i l = model.is_held (base_of l.base) (take l.i l.self) ≡ false
