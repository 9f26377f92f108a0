use Rattle.std.proofs.Common.{◌≡◌, length}
use Rattle.std.specs.List.{concat, list_any}
use Rattle.nd_model.specs.Making.Operators.{is_negative}
use Rattle.nd_element.specs.Elements.{AreHeld, numbers_at}
use Rattle.nd_ufunc.proofs.elementwise.powers.has_negative_in.Given as goal

abbrev pub invariant-loop-run : goal.invariant-loop-run
invariant-loop-run l = record {
  held : AreHeld l.elem l.bytes (concat l.runs);
  left : list_any is_negative (numbers_at l.elem l.bytes (concat l.runs)) ≡ list_any is_negative (numbers_at l.elem l.bytes l.view.places);
}

abbrev pub decreases-loop-run : goal.decreases-loop-run
decreases-loop-run l = length l.runs
