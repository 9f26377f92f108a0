use Rattle.std.proofs.Common.{◌≡◌, length, drop}
use Rattle.nd_model.specs.Arrays.View.{Structure}
use Rattle.nd_assign.specs.Copies.{with_copies}
use Rattle.nd_assign.proofs.structures.copy_structures.Given as goal

abbrev pub invariant-loop-index : goal.invariant-loop-index
invariant-loop-index l = record {
  len : length l.out ≡ length l.fn.out;
  rest : with_copies (Structure l.structure.0 l.structure.1) (Structure l.structure.0 l.structure.1) l.bytes (drop l.index l.run) (drop l.index l.from_run) l.out
      ≡ with_copies (Structure l.structure.0 l.structure.1) (Structure l.structure.0 l.structure.1) l.bytes l.run l.from_run l.fn.out;
}
