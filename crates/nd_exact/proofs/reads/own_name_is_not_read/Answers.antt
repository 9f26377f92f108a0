use Rattle.nd_exact.proofs.ReadRows.{own_name_is_not_read}
use Rattle.nd_exact.proofs.reads.own_name_is_not_read.Goals as goal

pub returns : goal.returns
returns c = own_name_is_not_read
