use Rattle.std.proofs.Common.{◌≡◌, take, false}
use Rattle.nd_model.specs.Cells.Session as model
use Rattle.nd_model.specs.Arrays.Value as values
use Rattle.nd_heap.proofs.name_table.NameTable.is_label_held.Given as goal

abbrev pub invariant-loop-i : goal.invariant-loop-i
invariant-loop-i l = (b : values.Base) → b.label ≡ l.label → model.is_held b (take l.i l.self) ≡ false
