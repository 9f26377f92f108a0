use Rattle.std.proofs.Common.{◌≡◌, ◌*◌, ◌++◌, length, drop}
use Rattle.std.specs.Int.{int_wrap, w128}
use Rattle.nd_convert.specs.Creation.Numbers.{bytes_below}
use Rattle.nd_convert.proofs.creation.InOrder.{apart}
use Rattle.nd_convert.proofs.creation.filling.fill_up_each.Given as goal

abbrev pub invariant-loop-index : goal.invariant-loop-index
invariant-loop-index l = record {
  long : length l.bytes ≡ length l.initial.bytes;
  bytes : l.bytes ≡ bytes_below l.elem (apart l.start l.step) l.index ++ drop (l.index * l.size) l.initial.bytes;
  next : int_wrap w128 l.number ≡ int_wrap w128 (apart l.start l.step l.index);
}
