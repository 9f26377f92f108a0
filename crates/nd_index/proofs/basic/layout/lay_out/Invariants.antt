use Rattle.std.proofs.Common.{◌≡◌, ◌+◌, ◌*◌, ◌^◌, ◌≤◌, ◌++◌, false, length, drop}
use Rattle.std.specs.Prelude.{pos, ◌+ℤ◌, None, unsigned_abs}
use Rattle.std.specs.List.{list_any}
use Rattle.nd_model.specs.Indexing.Selecting as model
use Rattle.nd_model.specs.Indexing.Selecting.{picks_of, picked_shape}
use Rattle.nd_index.specs.Basic.FullIndexes.{items_in}
use Rattle.nd_index.specs.Basic.Layouts.{picked_strides, picked_way}
use Rattle.nd_index.proofs.basic.layout.lay_out.Given as goal

abbrev pub invariant-loop-number : goal.invariant-loop-number
invariant-loop-number l = record {
  lengths : l.layout.lengths.items ++ picked_shape (picks_of (drop l.number (items_in l.index)) (drop l.axis l.shape)) ≡ picked_shape (picks_of (items_in l.index) l.shape);
  strides : l.layout.strides.items ++ picked_strides (picks_of (drop l.number (items_in l.index)) (drop l.axis l.shape)) (drop l.axis l.strides)
      ≡ picked_strides (picks_of (items_in l.index) l.shape) l.strides;
  way : l.layout.offset +ℤ picked_way (picks_of (drop l.number (items_in l.index)) (drop l.axis l.shape)) (drop l.axis l.strides)
      ≡ pos l.offset +ℤ picked_way (picks_of (items_in l.index) l.shape) l.strides;
  axes : l.axis + model.axes_in (drop l.number (items_in l.index)) ≡ length l.shape;
  steps : list_any model.has_zero_step (drop l.number (items_in l.index)) ≡ false;
  inside : model.first_outside (drop l.number (items_in l.index)) l.axis (drop l.axis l.shape) ≡ None;
  near : unsigned_abs l.layout.offset ≤ 2 ^ 64 + l.axis * 2 ^ 96;
}
