use Rattle.std.proofs.Common.{◌≡◌, ◌++◌, take}
use Rattle.nd_element.specs.Elements.{numbers_at}
use Rattle.nd_element.proofs.numbers.push_each.Given as goal

abbrev pub invariant-loop-number : goal.invariant-loop-number
invariant-loop-number l = l.numbers.items ≡ l.initial.numbers.items ++ numbers_at l.elem l.bytes (take l.number l.run)
