use Rattle.std.proofs.Common.{◌≡◌, drop, reverse}
use Rattle.nd_shape.specs.Stretches.{are_common}
use Rattle.nd_shape.proofs.stretching.are_common.Given as goal

abbrev pub invariant-loop-at : goal.invariant-loop-at
invariant-loop-at l = are_common (reverse l.left) (reverse l.right) ≡ are_common (drop l.at (reverse l.left)) (drop l.at (reverse l.right))
