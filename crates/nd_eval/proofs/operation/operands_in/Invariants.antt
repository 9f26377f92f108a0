use Rattle.std.proofs.Common.{◌≡◌, ◌++◌, map, drop}
use Rattle.nd_session.specs.Session.Live.{live}
use Rattle.nd_operation.specs.Operators.Contents.{operand_of}
use Rattle.nd_eval.specs.Uses.{operands_over}
use Rattle.nd_eval.proofs.operation.operands_in.Given as goal

abbrev pub invariant-loop-value : goal.invariant-loop-value
invariant-loop-value l =
    map operand_of l.operands.items ++ operands_over (live l.session).bytes (drop l.value-index l.values) ≡ operands_over (live l.session).bytes l.values
