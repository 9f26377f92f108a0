use Rattle.nd_exact.proofs.ReadRows.{deletion_reads_no_byte}
use Rattle.nd_exact.proofs.reads.deletion_reads_no_byte.Goals as goal

pub returns : goal.returns
returns c = deletion_reads_no_byte
