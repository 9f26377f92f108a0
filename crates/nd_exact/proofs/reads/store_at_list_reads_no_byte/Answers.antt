use Rattle.nd_exact.proofs.ReadRows.{store_at_list_reads_no_byte}
use Rattle.nd_exact.proofs.reads.store_at_list_reads_no_byte.Goals as goal

pub returns : goal.returns
returns c = store_at_list_reads_no_byte
