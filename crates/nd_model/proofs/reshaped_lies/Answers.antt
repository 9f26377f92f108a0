use Rattle.nd_model.proofs.Reshaped.{reshaped_lies}
use Rattle.nd_model.proofs.reshaped_lies.Goals as goal

pub returns : goal.returns
returns c = reshaped_lies
