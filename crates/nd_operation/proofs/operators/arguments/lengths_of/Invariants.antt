use Rattle.std.proofs.Common.{◌≡◌, map, drop}
use Rattle.nd_model.specs.Making.Creation.{lengths_of}
use Rattle.nd_operation.specs.Operators.Contents.{unused_of}
use Rattle.nd_operation.specs.Operators.New.{clip_lengths}
use Rattle.nd_operation.proofs.operators.Creating.{before}
use Rattle.nd_operation.proofs.operators.arguments.lengths_of.Given as goal

-- the lengths so far, and behind them those that are left
abbrev pub invariant-loop-value : goal.invariant-loop-value
invariant-loop-value l =
    clip_lengths (lengths_of (map unused_of l.fn.values)) ≡ before l.lengths.items (clip_lengths (lengths_of (map unused_of (drop l.value-index l.values))))
