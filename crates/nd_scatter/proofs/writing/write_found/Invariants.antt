use Rattle.std.proofs.Common.{◌≡◌, ◌+◌, ◌*◌, ◌≤◌, length}
use Rattle.std.specs.List.{All}
use Rattle.nd_model.specs.Arrays.View.{item_size}
use Rattle.nd_types.specs.Types.{type_of}
use Rattle.nd_scatter.specs.Scattered.{scattered}
use Rattle.nd_scatter.proofs.writing.write_found.Given as goal

abbrev pub invariant-loop-part : goal.invariant-loop-part
invariant-loop-part l = record {
  many : length l.some ≡ 512;
  len : length l.out ≡ length l.fn.out;
  done : l.done + length l.walk ≡ length l.places;
  inside : All (λ p. p + item_size (type_of l.elem) ≤ length l.fn.out) l.walk;
  rest : scattered (type_of l.elem) l.values l.step (l.done * l.step) l.walk l.out ≡ scattered (type_of l.elem) l.values l.step 0 l.places l.fn.out;
}

abbrev pub decreases-loop-part : goal.decreases-loop-part
decreases-loop-part l = length l.walk
