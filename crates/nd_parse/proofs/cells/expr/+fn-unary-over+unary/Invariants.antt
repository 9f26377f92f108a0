use Rattle.std.proofs.Common.{◌+◌, ◌*◌}
use Rattle.nd_parse.proofs.cells.expr.+fn-unary-over+unary.Given as goal

abbrev pub decreases-unary : goal.decreases-unary
decreases-unary l = l.levels * 2

abbrev pub decreases-over : goal.decreases-over
decreases-over l = l.left * 2 + 1
