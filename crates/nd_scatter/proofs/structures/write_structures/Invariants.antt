use Rattle.std.proofs.Common.{◌≡◌, ◌+◌, ◌*◌, length, drop}
use Rattle.nd_model.specs.Arrays.View.{Structure}
use Rattle.nd_scatter.specs.Scattered.{scattered}
use Rattle.nd_scatter.proofs.structures.write_structures.Given as goal

abbrev pub invariant-loop-index : goal.invariant-loop-index
invariant-loop-index l = record {
  len : length l.out ≡ length l.fn.out;
  rest : scattered (Structure l.structure.0 l.structure.1) l.values l.step (l.from + l.index * l.step) (drop l.index l.places) l.out
      ≡ scattered (Structure l.structure.0 l.structure.1) l.values l.step l.from l.places l.fn.out;
}
