use Rattle.std.proofs.Common.{◌≡◌, length}
use Rattle.nd_model.specs.Arrays.View.{One}
use Rattle.nd_assign.specs.Copies.{with_copies}
use Rattle.nd_assign.specs.Grids.{stack_places}
use Rattle.nd_assign.proofs.columns.copy_grids.Given as goal

abbrev pub invariant-loop-at : goal.invariant-loop-at
invariant-loop-at l = record {
  len : length l.out ≡ length l.fn.out;
  done : l.out ≡ with_copies (One l.to) (One l.from) l.bytes (stack_places l.fn.grids.target l.at) (stack_places l.fn.grids.source l.at) l.fn.out;
}
