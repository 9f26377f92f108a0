use Rattle.nd_reach.proofs.Reaching.{reach_is_all}
use Rattle.nd_reach.proofs.reach_is_all.Goals as goal

pub returns : goal.returns
returns c = reach_is_all
