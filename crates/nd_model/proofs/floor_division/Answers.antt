use Rattle.nd_model.proofs.Dividing.{floor_division}
use Rattle.nd_model.proofs.floor_division.Goals as goal

pub returns : goal.returns
returns c = floor_division
