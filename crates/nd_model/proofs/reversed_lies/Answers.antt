use Rattle.nd_model.proofs.Transposed.{reversed_lies}
use Rattle.nd_model.proofs.reversed_lies.Goals as goal

pub returns : goal.returns
returns c = reversed_lies
