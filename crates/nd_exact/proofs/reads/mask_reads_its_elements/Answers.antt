use Rattle.nd_exact.proofs.ReadRows.{mask_reads_its_elements}
use Rattle.nd_exact.proofs.reads.mask_reads_its_elements.Goals as goal

pub returns : goal.returns
returns c = mask_reads_its_elements
