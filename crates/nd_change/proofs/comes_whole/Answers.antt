use Rattle.nd_change.proofs.Whole.{comes_whole}
use Rattle.nd_change.proofs.comes_whole.Goals as goal

pub returns : goal.returns
returns c = comes_whole
