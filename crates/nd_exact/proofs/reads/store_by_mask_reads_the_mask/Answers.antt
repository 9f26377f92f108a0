use Rattle.nd_exact.proofs.ReadRows.{store_by_mask_reads_the_mask}
use Rattle.nd_exact.proofs.reads.store_by_mask_reads_the_mask.Goals as goal

pub returns : goal.returns
returns c = store_by_mask_reads_the_mask
