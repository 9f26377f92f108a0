use Rattle.nd_exact.proofs.ReadRows.{list_reads_its_elements}
use Rattle.nd_exact.proofs.reads.list_reads_its_elements.Goals as goal

pub returns : goal.returns
returns c = list_reads_its_elements
