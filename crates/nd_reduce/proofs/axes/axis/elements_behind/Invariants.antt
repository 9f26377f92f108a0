use Rattle.std.proofs.Common.{◌≡◌, ◌*◌, drop}
use Rattle.nd_model.specs.Arrays.Tuple.{elements_of}
use Rattle.nd_reduce.proofs.axes.axis.elements_behind.Given as goal

abbrev pub invariant-loop-length : goal.invariant-loop-length
invariant-loop-length l = l.count * elements_of (drop l.length-index l.behind) ≡ elements_of l.behind
