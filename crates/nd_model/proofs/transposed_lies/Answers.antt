use Rattle.nd_model.proofs.Transposed.{transposed_lies}
use Rattle.nd_model.proofs.transposed_lies.Goals as goal

pub returns : goal.returns
returns c = transposed_lies
