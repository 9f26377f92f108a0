use Rattle.std.proofs.Common.{◌≡◌, ◌++◌, length}
use Rattle.std.specs.List.{concat}
use Rattle.nd_element.specs.Elements.{AreHeld, numbers_at}
use Rattle.nd_element.proofs.numbers.numbers_of.Given as goal

abbrev pub invariant-loop-run : goal.invariant-loop-run
invariant-loop-run l = record {
  all : l.numbers.items ++ numbers_at l.elem l.bytes (concat l.runs) ≡ numbers_at l.elem l.bytes l.view.places;
  inside : AreHeld l.elem l.bytes (concat l.runs);
}

abbrev pub decreases-loop-run : goal.decreases-loop-run
decreases-loop-run l = length l.runs
