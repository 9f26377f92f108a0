use Rattle.nd_model.proofs.Sessions.{names_stand_once}
use Rattle.nd_model.proofs.names_stand_once.Goals as goal

pub returns : goal.returns
returns c = names_stand_once
