use Rattle.std.proofs.Common.{◌≡◌, ◌-◌, ◌++◌, take, drop, replicate}
use Rattle.nd_view.proofs.walk.clear_from.Given as goal

abbrev pub invariant-loop-axis : goal.invariant-loop-axis
invariant-loop-axis l = l.index ≡ (take l.from l.initial.index ++ replicate (l.axis - l.from) 0) ++ drop l.axis l.initial.index
