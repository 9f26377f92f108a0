use Rattle.std.proofs.Common.{◌≡◌, ◌++◌, map, take, drop}
use Rattle.nd_print.specs.Columns.{wider_column}
use Rattle.nd_print.proofs.columns.widen_columns.Given as goal

abbrev pub invariant-loop-index : goal.invariant-loop-index
invariant-loop-index l = l.columns ≡ map (wider_column l.element) (take l.index l.initial.columns) ++ drop l.index l.initial.columns
