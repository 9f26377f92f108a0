use Rattle.nd_exact.proofs.ReadRows.{view_reads_no_byte}
use Rattle.nd_exact.proofs.reads.view_reads_no_byte.Goals as goal

pub returns : goal.returns
returns c = view_reads_no_byte
