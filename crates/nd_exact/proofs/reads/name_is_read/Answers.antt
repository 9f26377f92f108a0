use Rattle.nd_exact.proofs.ReadRows.{name_is_read}
use Rattle.nd_exact.proofs.reads.name_is_read.Goals as goal

pub returns : goal.returns
returns c = name_is_read
