use Rattle.nd_ufunc.specs.Elementwise.Spread.{own_number}
use Rattle.nd_ufunc.proofs.elementwise.Spreads.{IsAlong}
use Rattle.nd_ufunc.proofs.elementwise.spread.aligned_number.Given as goal

abbrev pub invariant-loop-axis : goal.invariant-loop-axis
invariant-loop-axis l = IsAlong l.own l.shape l.axis l.each l.own_each l.left l.found (own_number l.own l.shape l.fn.at)
