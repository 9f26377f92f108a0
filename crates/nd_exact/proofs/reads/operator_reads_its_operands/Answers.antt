use Rattle.nd_exact.proofs.ReadRows.{operator_reads_its_operands}
use Rattle.nd_exact.proofs.reads.operator_reads_its_operands.Goals as goal

pub returns : goal.returns
returns c = operator_reads_its_operands
