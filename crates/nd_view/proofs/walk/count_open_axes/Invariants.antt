use Rattle.std.proofs.Common.{◌≡◌, ◌+◌, ◌≤◌, length, drop}
use Rattle.std.specs.List.{AllZip}
use Rattle.nd_view.proofs.walk.count_open_axes.Given as goal

abbrev pub invariant-loop-axes : goal.invariant-loop-axes
invariant-loop-axes l = record {
  inside : l.axes ≤ length l.shape;
  ends : AllZip (λ i n. i + 1 ≡ n) (drop l.axes l.index) (drop l.axes l.shape);
}

abbrev pub decreases-loop-axes : goal.decreases-loop-axes
decreases-loop-axes l = l.axes
