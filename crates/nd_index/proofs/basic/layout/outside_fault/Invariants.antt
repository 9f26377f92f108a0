use Rattle.std.proofs.Common.{◌≡◌, ◌+◌, length, drop}
use Rattle.nd_model.specs.Indexing.Selecting as model
use Rattle.nd_index.specs.Basic.FullIndexes.{items_in}
use Rattle.nd_index.proofs.basic.layout.outside_fault.Given as goal

abbrev pub invariant-loop-number : goal.invariant-loop-number
invariant-loop-number l = record {
  same : model.first_outside (items_in l.index) 0 l.shape ≡ model.first_outside (drop l.number (items_in l.index)) l.axis (drop l.axis l.shape);
  axes : l.axis + model.axes_in (drop l.number (items_in l.index)) ≡ length l.shape;
}
