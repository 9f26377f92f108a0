use Rattle.std.proofs.Common.{◌≡◌, ◌*◌, ◌++◌, length}
use Rattle.nd_model.specs.Arrays.Element.{size_of}
use Rattle.nd_model.specs.Making.Elementwise.{little}
use Rattle.nd_types.specs.Kinds.{kind_of}
use Rattle.nd_ufunc.specs.Loops.Feeds.{numbers_left, size_left}
use Rattle.nd_ufunc.specs.Loops.Results.{result_bytes}
use Rattle.nd_ufunc.proofs.loops.chunks.fill.Given as goal

abbrev pub invariant-loop-rest : goal.invariant-loop-rest
invariant-loop-rest g l = record {
  left : length (numbers_left l.left) ≡ l.rest;
  right : length (numbers_left l.right) ≡ l.rest;
  left_size : size_left l.left ≡ size_left l.fn.left;
  right_size : size_left l.right ≡ size_left l.fn.right;
  room : l.rest * size_of (kind_of l.to) ≡ l.out.1;
  written : l.out.0 ++ result_bytes (little (kind_of l.to)) (g.O.Operation.gives (kind_of l.to)) (numbers_left l.left) (numbers_left l.right)
      ≡ l.fn.filling.0 ++ result_bytes (little (kind_of l.to)) (g.O.Operation.gives (kind_of l.to)) (numbers_left l.fn.left) (numbers_left l.fn.right);
}

abbrev pub decreases-loop-rest : goal.decreases-loop-rest
decreases-loop-rest g l = l.rest
