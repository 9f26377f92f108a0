use Rattle.std.proofs.Common.{◌≡◌, ◌+◌, length, take}
use Rattle.nd_block.proofs.block.fill_from.Given as goal

abbrev pub invariant-loop-i : goal.invariant-loop-i
invariant-loop-i l = record {
  place : l.places.first ≡ l.fn.places.first;
  bytes : l.places.written ≡ take l.i l.bytes;
  left : l.places.unwritten + l.i ≡ length l.bytes;
}
