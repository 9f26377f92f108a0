use Rattle.std.proofs.Common.{◌≡◌, ◌++◌}
use Rattle.nd_model.specs.Arrays.Tuple.{count_up}
use Rattle.nd_view.proofs.elements.push_run.Given as goal

abbrev pub invariant-loop-at : goal.invariant-loop-at
invariant-loop-at l = l.places.items ≡ l.initial.places.items ++ count_up l.first l.at
