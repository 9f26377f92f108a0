use Rattle.nd_model.proofs.Parts.{parts_are_held}
use Rattle.nd_model.proofs.parts_are_held.Goals as goal

pub returns : goal.returns
returns c = parts_are_held
