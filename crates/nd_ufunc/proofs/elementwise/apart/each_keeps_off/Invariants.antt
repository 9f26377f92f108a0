use Rattle.std.proofs.Common.{ℕ, ◌+◌, ◌*◌, ◌<◌, ◌≤◌, slice_index}
use Rattle.nd_ufunc.proofs.elementwise.apart.each_keeps_off.Given as goal

abbrev pub invariant-loop-number : goal.invariant-loop-number
invariant-loop-number l = (k : ℕ) → k < l.number → l.first < slice_index l.run k + l.size → l.first + (l.at + k) * l.step ≤ slice_index l.run k
