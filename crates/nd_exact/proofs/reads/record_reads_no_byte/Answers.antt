use Rattle.nd_exact.proofs.ReadRows.{record_reads_no_byte}
use Rattle.nd_exact.proofs.reads.record_reads_no_byte.Goals as goal

pub returns : goal.returns
returns c = record_reads_no_byte
