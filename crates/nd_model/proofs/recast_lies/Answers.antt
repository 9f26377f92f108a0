use Rattle.nd_model.proofs.Recast.{recast_lies}
use Rattle.nd_model.proofs.recast_lies.Goals as goal

pub returns : goal.returns
returns c = recast_lies
