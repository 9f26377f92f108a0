use Rattle.std.proofs.Common.{◌≡◌, ◌++◌, drop, length}
use Rattle.std.specs.List.{concat}
use Rattle.nd_print.specs.Columns.{wider_columns}
use Rattle.nd_print.proofs.columns.widen_all.Given as goal

abbrev pub invariant-loop-number : goal.invariant-loop-number
invariant-loop-number l = wider_columns l.bytes (drop l.number l.run ++ concat l.runs) l.columns ≡ wider_columns l.bytes l.view.places l.fn.columns

abbrev pub invariant-loop-run : goal.invariant-loop-run
invariant-loop-run l = wider_columns l.bytes (concat l.runs) l.columns ≡ wider_columns l.bytes l.view.places l.fn.columns

abbrev pub decreases-loop-run : goal.decreases-loop-run
decreases-loop-run l = length l.runs
