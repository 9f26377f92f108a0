use Rattle.std.proofs.Common.{◌≡◌, ◌+◌, replicate}
use Rattle.nd_block.proofs.block.fill_zero.Given as goal

abbrev pub invariant-loop-i : goal.invariant-loop-i
invariant-loop-i l = record {
  place : l.places.first ≡ l.fn.places.first;
  zeros : l.places.written ≡ replicate l.i 0;
  left : l.places.unwritten + l.i ≡ l.count;
}
