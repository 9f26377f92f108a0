use Rattle.std.proofs.Common.{◌≡◌, ◌≤◌, length, drop}
use Rattle.std.specs.Prelude.{pos}
use Rattle.nd_model.specs.Arrays.Tuple.{elements_of}
use Rattle.nd_view.specs.Strides.{IsEven}
use Rattle.nd_view.proofs.inner_loop.widest_loop.Given as goal

abbrev pub invariant-loop-outer : goal.invariant-loop-outer
invariant-loop-outer l = record {
  outer : l.outer ≤ length l.shape;
  count : l.count ≡ elements_of (drop l.outer l.shape);
  even : IsEven (drop l.outer l.shape) (drop l.outer l.strides) l.step;
  alone : l.count ≡ 1 → l.step ≡ pos 0;
}

abbrev pub decreases-loop-outer : goal.decreases-loop-outer
decreases-loop-outer l = l.outer
