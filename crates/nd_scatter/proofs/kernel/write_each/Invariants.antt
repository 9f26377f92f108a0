use Rattle.std.proofs.Common.{◌≡◌, ◌+◌, ◌*◌, length, drop}
use Rattle.nd_model.specs.Arrays.View.{One}
use Rattle.nd_scatter.specs.Scattered.{scattered}
use Rattle.nd_scatter.proofs.kernel.write_each.Given as goal

abbrev pub invariant-loop-index : goal.invariant-loop-index
invariant-loop-index l = record {
  len : length l.out ≡ length l.fn.out;
  rest : scattered (One l.fn.elem) l.values l.step (l.from + l.index * l.step) (drop l.index l.places) l.out ≡ scattered (One l.fn.elem) l.values l.step l.from l.places l.fn.out;
}
