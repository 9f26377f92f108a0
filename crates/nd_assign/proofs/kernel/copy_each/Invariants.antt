use Rattle.std.proofs.Common.{◌≡◌, length, drop}
use Rattle.nd_model.specs.Arrays.Runs.{run_places}
use Rattle.nd_model.specs.Arrays.View.{One}
use Rattle.nd_assign.specs.Copies.{with_copies}
use Rattle.nd_assign.proofs.kernel.copy_each.Given as goal

abbrev pub invariant-loop-index : goal.invariant-loop-index
invariant-loop-index l = record {
  len : length l.out ≡ length l.fn.out;
  rest : with_copies (One l.to) (One l.from) l.bytes (drop l.index (run_places l.fn.start l.fn.step l.fn.count)) (drop l.index (run_places l.fn.from_start l.fn.from_step l.fn.count)) l.out
      ≡ with_copies (One l.to) (One l.from) l.bytes (run_places l.fn.start l.fn.step l.fn.count) (run_places l.fn.from_start l.fn.from_step l.fn.count) l.fn.out;
}
