use Rattle.std.proofs.Common.{◌≡◌, true, length, drop, ◌++◌}
use Rattle.std.specs.List.{list_all}
use Rattle.nd_model.specs.Indexing.Selecting.{is_within}
use Rattle.nd_model.specs.Indexing.Transposing.{axes_of}
use Rattle.nd_shape.specs.Layouts.{lengths_on, strides_on}
use Rattle.nd_shape.proofs.transposing.order_axes.Given as goal

abbrev pub invariant-loop-number : goal.invariant-loop-number
invariant-loop-number l = record {
  inside : list_all (is_within (length l.shape)) (drop l.number-index l.order) ≡ true;
  lengths : l.layout.lengths.items ++ lengths_on l.shape (axes_of (length l.shape) (drop l.number-index l.order)) ≡ lengths_on l.shape (axes_of (length l.shape) l.order);
  strides : l.layout.strides.items ++ strides_on l.strides (axes_of (length l.shape) (drop l.number-index l.order)) ≡ strides_on l.strides (axes_of (length l.shape) l.order);
}
