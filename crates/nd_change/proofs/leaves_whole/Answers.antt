use Rattle.nd_change.proofs.Whole.{leaves_whole}
use Rattle.nd_change.proofs.leaves_whole.Goals as goal

pub returns : goal.returns
returns c = leaves_whole
