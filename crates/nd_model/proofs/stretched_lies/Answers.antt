use Rattle.nd_model.proofs.Stretched.{stretched_lies}
use Rattle.nd_model.proofs.stretched_lies.Goals as goal

pub returns : goal.returns
returns c = stretched_lies
