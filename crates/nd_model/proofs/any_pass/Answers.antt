use Rattle.nd_model.proofs.Passing.{any_pass}
use Rattle.nd_model.proofs.any_pass.Goals as goal

pub returns : goal.returns
returns c = any_pass
