use Rattle.nd_exact.proofs.ReadRows.{missing_name_is_read}
use Rattle.nd_exact.proofs.reads.missing_name_is_read.Goals as goal

pub returns : goal.returns
returns c = missing_name_is_read
