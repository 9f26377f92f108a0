use Rattle.std.proofs.Common.{◌≡◌, ◌+◌, length, drop}
use Rattle.std.specs.List.{concat}
use Rattle.nd_model.specs.Arrays.View.{One}
use Rattle.nd_element.specs.Elements.{AreHeld}
use Rattle.nd_assign.specs.Copies.{with_copies}
use Rattle.nd_assign.proofs.whole_run.copy_to_view.Given as goal

abbrev pub invariant-loop-run : goal.invariant-loop-run
invariant-loop-run l = record {
  len : length l.out ≡ length l.fn.out;
  counts : l.at + length (concat l.runs) ≡ length l.source;
  out : AreHeld l.to l.fn.out (concat l.runs);
  held : AreHeld l.from l.bytes (drop l.at l.source);
  rest : with_copies (One l.to) (One l.from) l.bytes (concat l.runs) (drop l.at l.source) l.out
      ≡ with_copies (One l.to) (One l.from) l.bytes l.target.places l.source l.fn.out;
}

abbrev pub decreases-loop-run : goal.decreases-loop-run
decreases-loop-run l = length l.runs
