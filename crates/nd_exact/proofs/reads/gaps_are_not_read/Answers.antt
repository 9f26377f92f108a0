use Rattle.nd_exact.proofs.ReadRows.{gaps_are_not_read}
use Rattle.nd_exact.proofs.reads.gaps_are_not_read.Goals as goal

pub returns : goal.returns
returns c = gaps_are_not_read
