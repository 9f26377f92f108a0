use Rattle.std.proofs.Common.{map, string_bytes, drop}
use Rattle.nd_operation.specs.Operators.Contents.{operand_of}
use Rattle.nd_model.specs.Text.Printing.{printed_line}
use Rattle.nd_operation.proofs.operators.Lines.{GoesOn}
use Rattle.nd_operation.proofs.operators.printing.print_line.Given as goal

abbrev pub invariant-loop-operand : goal.invariant-loop-operand
invariant-loop-operand l = GoesOn (printed_line (map operand_of l.operands)) (string_bytes l.line) (map operand_of (drop l.operand-index l.rest))
