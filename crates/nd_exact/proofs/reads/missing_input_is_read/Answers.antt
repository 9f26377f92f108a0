use Rattle.nd_exact.proofs.ReadRows.{missing_input_is_read}
use Rattle.nd_exact.proofs.reads.missing_input_is_read.Goals as goal

pub returns : goal.returns
returns c = missing_input_is_read
