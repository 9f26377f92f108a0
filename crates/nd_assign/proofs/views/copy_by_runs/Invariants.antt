use Rattle.std.proofs.Common.{◌≡◌, ◌+◌, ◌≤◌, length}
use Rattle.std.specs.List.{All, concat}
use Rattle.nd_model.specs.Arrays.View.{item_size}
use Rattle.nd_assign.specs.Copies.{with_copies}
use Rattle.nd_assign.proofs.views.copy_by_runs.Given as goal

abbrev pub invariant-loop-run : goal.invariant-loop-run
invariant-loop-run l = record {
  len : length l.out ≡ length l.fn.out;
  counts : length l.walk ≡ length (concat l.runs);
  out : All (λ p. p + item_size l.target.element ≤ length l.fn.out) (concat l.runs);
  held : All (λ p. p + item_size l.source.element ≤ length l.bytes) l.walk;
  rest : with_copies l.target.element l.source.element l.bytes (concat l.runs) l.walk l.out
      ≡ with_copies l.target.element l.source.element l.bytes l.target.places l.source.places l.fn.out;
}

abbrev pub decreases-loop-run : goal.decreases-loop-run
decreases-loop-run l = length l.runs
