use Rattle.nd_model.proofs.Renamed.{rename}
use Rattle.nd_model.proofs.rename.Goals as goal

pub returns : goal.returns
returns c = rename
