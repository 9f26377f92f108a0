use Rattle.nd_model.proofs.Gathered.{advanced_lies}
use Rattle.nd_model.proofs.advanced_lies.Goals as goal

pub returns : goal.returns
returns c = advanced_lies
