use Rattle.std.proofs.Common.{◌≡◌, ◌≤◌, ◌++◌, length, take, reverse}
use Rattle.nd_shape.specs.Stretches.{joined_shape}
use Rattle.nd_shape.proofs.stretching.broadcast.Given as goal

abbrev pub invariant-loop-at : goal.invariant-loop-at
invariant-loop-at l = record {
  within : l.at ≤ length (joined_shape (reverse l.left) (reverse l.right));
  shape : l.shape.items ++ reverse (take l.at (joined_shape (reverse l.left) (reverse l.right))) ≡ reverse (joined_shape (reverse l.left) (reverse l.right));
}

abbrev pub decreases-loop-at : goal.decreases-loop-at
decreases-loop-at l = l.at
