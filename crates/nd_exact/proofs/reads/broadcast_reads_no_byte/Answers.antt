use Rattle.nd_exact.proofs.ReadRows.{broadcast_reads_no_byte}
use Rattle.nd_exact.proofs.reads.broadcast_reads_no_byte.Goals as goal

pub returns : goal.returns
returns c = broadcast_reads_no_byte
