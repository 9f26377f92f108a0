use Rattle.nd_change.proofs.Whole.{follows_whole}
use Rattle.nd_change.proofs.follows_whole.Goals as goal

pub returns : goal.returns
returns c = follows_whole
