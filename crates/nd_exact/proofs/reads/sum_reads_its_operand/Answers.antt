use Rattle.nd_exact.proofs.ReadRows.{sum_reads_its_operand}
use Rattle.nd_exact.proofs.reads.sum_reads_its_operand.Goals as goal

pub returns : goal.returns
returns c = sum_reads_its_operand
