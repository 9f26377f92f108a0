use Rattle.std.proofs.Common.{◌≡◌, drop}
use Rattle.nd_operation.proofs.operators.Listing.{are_python}
use Rattle.nd_operation.proofs.operators.lists.check_numbers.Given as goal

abbrev pub invariant-loop-value : goal.invariant-loop-value
invariant-loop-value l = are_python l.fn.values ≡ are_python (drop l.value-index l.values)
