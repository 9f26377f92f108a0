use Rattle.nd_exact.proofs.ReadRows.{store_reads_no_byte}
use Rattle.nd_exact.proofs.reads.store_reads_no_byte.Goals as goal

pub returns : goal.returns
returns c = store_reads_no_byte
