use Rattle.std.proofs.Common.{◌≡◌, false, take}
use Rattle.std.specs.List.{list_any}
use Rattle.nd_model.specs.Making.Operators.{is_negative}
use Rattle.nd_element.specs.Elements.{numbers_at}
use Rattle.nd_ufunc.proofs.elementwise.powers.has_negative.Given as goal

abbrev pub invariant-loop-number : goal.invariant-loop-number
invariant-loop-number l = list_any is_negative (numbers_at l.elem l.bytes (take l.number l.run)) ≡ false
