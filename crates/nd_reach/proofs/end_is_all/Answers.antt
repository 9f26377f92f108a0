use Rattle.nd_reach.proofs.Reaching.{end_is_all}
use Rattle.nd_reach.proofs.end_is_all.Goals as goal

pub returns : goal.returns
returns c = end_is_all
