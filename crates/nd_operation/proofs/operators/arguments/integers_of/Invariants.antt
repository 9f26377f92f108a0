use Rattle.std.proofs.Common.{◌≡◌, map, drop}
use Rattle.nd_model.specs.Making.Creation.{integers_of}
use Rattle.nd_operation.specs.Operators.Contents.{unused_of}
use Rattle.nd_operation.proofs.operators.Creating.{before_integers}
use Rattle.nd_operation.proofs.operators.arguments.integers_of.Given as goal

-- the integers so far, and behind them those that are left
abbrev pub invariant-loop-value : goal.invariant-loop-value
invariant-loop-value l =
    integers_of (map unused_of l.fn.values) ≡ before_integers l.integers.items (integers_of (map unused_of (drop l.value-index l.values)))
