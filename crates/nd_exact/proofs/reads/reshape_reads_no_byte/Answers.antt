use Rattle.nd_exact.proofs.ReadRows.{reshape_reads_no_byte}
use Rattle.nd_exact.proofs.reads.reshape_reads_no_byte.Goals as goal

pub returns : goal.returns
returns c = reshape_reads_no_byte
