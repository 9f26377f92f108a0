use Rattle.std.proofs.Common.{◌≡◌, ◌+◌, ◌*◌, length}
use Rattle.std.specs.List.{flat_map}
use Rattle.nd_model.specs.Arrays.Tuple.{count_up}
use Rattle.nd_convert.proofs.creation.elements.repeat.Given as goal

abbrev pub invariant-loop : goal.invariant-loop
invariant-loop l = record {
  written : l.block.0 ≡ flat_map (λ k. l.element) (count_up 0 l.counter);
  left : l.block.1 + l.counter * length l.element ≡ l.count * length l.element;
}
