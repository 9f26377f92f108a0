use Rattle.nd_exact.proofs.ReadRows.{save_reads_its_value}
use Rattle.nd_exact.proofs.reads.save_reads_its_value.Goals as goal

pub returns : goal.returns
returns c = save_reads_its_value
