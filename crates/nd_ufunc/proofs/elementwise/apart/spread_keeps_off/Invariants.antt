use Rattle.std.proofs.Common.{◌≡◌, ℕ, ◌+◌, ◌*◌, ◌<◌, ◌≤◌, drop, slice_index}
use Rattle.nd_ufunc.proofs.elementwise.apart.spread_keeps_off.Given as goal

abbrev pub invariant-loop-at : goal.invariant-loop-at
invariant-loop-at l = record {
  walk : l.places ≡ drop l.at l.fn.places;
  done : (k : ℕ) → k < l.at → l.first < slice_index l.fn.places k + l.size → l.first + k * l.step ≤ slice_index l.fn.places k;
}
