use Rattle.nd_exact.proofs.ReadRows.{field_reads_its_bytes}
use Rattle.nd_exact.proofs.reads.field_reads_its_bytes.Goals as goal

pub returns : goal.returns
returns c = field_reads_its_bytes
