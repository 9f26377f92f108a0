use Rattle.nd_model.proofs.Residues.{one_wrap}
use Rattle.nd_model.proofs.one_wrap.Goals as goal

pub returns : goal.returns
returns c = one_wrap
