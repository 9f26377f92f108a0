use Rattle.std.proofs.Common.{◌≡◌, ◌+◌, ◌≤◌, length, drop}
use Rattle.nd_places.specs.Near.{trues_in}
use Rattle.nd_places.proofs.masks.count_few.Given as goal

abbrev pub invariant-loop-byte : goal.invariant-loop-byte
invariant-loop-byte l = record {
  total : l.count + length (trues_in 0 (drop l.byte-index l.mask)) ≡ length (trues_in 0 l.mask);
  few : l.count ≤ l.byte-index;
}
