use Rattle.nd_change.proofs.Whole.{puts_whole}
use Rattle.nd_change.proofs.puts_whole.Goals as goal

pub returns : goal.returns
returns c = puts_whole
