use Rattle.std.proofs.Common.{◌-◌, ◌≤◌}
use Rattle.std.specs.Prelude.{int_lt}
use Rattle.nd_types.specs.Kinds.{kind_of}
use Rattle.nd_reduce.specs.Folds.Blocks.{IsFirstBlock}
use Rattle.nd_reduce.proofs.folds.blocks.least_block.Given as goal

abbrev pub invariant-loop-done : goal.invariant-loop-done
invariant-loop-done l = record {
  within : l.done ≤ l.count;
  found : IsFirstBlock int_lt (kind_of l.kind) l.bytes l.done l.found.from l.found.count l.found.best;
}

abbrev pub decreases-loop-done : goal.decreases-loop-done
decreases-loop-done l = l.count - l.done
