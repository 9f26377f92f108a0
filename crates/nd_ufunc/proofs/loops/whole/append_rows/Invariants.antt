use Rattle.std.proofs.Common.{◌≡◌, ◌+◌, ◌-◌, ◌*◌, ◌≤◌, ◌++◌}
use Rattle.nd_model.specs.Arrays.Element.{size_of}
use Rattle.nd_model.specs.Making.Elementwise.{little}
use Rattle.nd_types.specs.Kinds.{kind_of}
use Rattle.nd_ufunc.specs.Loops.Results.{result_bytes}
use Rattle.nd_ufunc.specs.Loops.Sides.{numbers_on}
use Rattle.nd_ufunc.proofs.loops.whole.append_rows.Given as goal

abbrev pub invariant-loop-done : goal.invariant-loop-done
invariant-loop-done g l = record {
  within : l.done ≤ l.count;
  written : l.out.0 ≡ l.fn.filling.0 ++ result_bytes (little (kind_of l.to)) (g.O.Operation.gives (kind_of l.to)) (numbers_on l.left l.done) (numbers_on l.right l.done);
  room : l.out.1 + l.done * size_of (kind_of l.to) ≡ l.fn.filling.1;
}

abbrev pub decreases-loop-done : goal.decreases-loop-done
decreases-loop-done g l = l.count - l.done
