use Rattle.nd_change.proofs.Whole.{keeps_whole}
use Rattle.nd_change.proofs.keeps_whole.Goals as goal

pub returns : goal.returns
returns c = keeps_whole
