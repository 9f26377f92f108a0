use Rattle.nd_exact.proofs.ReadRows.{copy_reads_its_elements}
use Rattle.nd_exact.proofs.reads.copy_reads_its_elements.Goals as goal

pub returns : goal.returns
returns c = copy_reads_its_elements
