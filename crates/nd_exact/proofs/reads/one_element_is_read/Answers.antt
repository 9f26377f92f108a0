use Rattle.nd_exact.proofs.ReadRows.{one_element_is_read}
use Rattle.nd_exact.proofs.reads.one_element_is_read.Goals as goal

pub returns : goal.returns
returns c = one_element_is_read
