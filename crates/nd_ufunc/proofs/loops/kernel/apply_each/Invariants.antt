use Rattle.std.proofs.Common.{◌≡◌, ◌*◌, length, take}
use Rattle.std.specs.List.{flat_map}
use Rattle.nd_model.specs.Arrays.Element.{size_of, bytes_of}
use Rattle.nd_model.specs.Making.Elementwise.{little}
use Rattle.nd_model.specs.Arrays.Tuple.{count_up}
use Rattle.nd_types.specs.Kinds.{kind_of}
use Rattle.nd_ufunc.specs.Loops.Sides.{number_on}
use Rattle.nd_ufunc.proofs.loops.kernel.apply_each.Given as goal

abbrev pub invariant-loop-index : goal.invariant-loop-index
invariant-loop-index g l = record {
  len : length l.out ≡ length l.fn.out;
  done : take (l.index * size_of (kind_of l.to)) l.out
      ≡ flat_map (λ j. bytes_of (little (kind_of l.to)) (g.O.Operation.gives (kind_of l.to) (number_on l.left j) (number_on l.right j))) (count_up 0 l.index);
}
