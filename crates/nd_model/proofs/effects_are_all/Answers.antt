use Rattle.nd_model.proofs.Tracks.{effects_are_all}
use Rattle.nd_model.proofs.effects_are_all.Goals as goal

pub returns : goal.returns
returns c = effects_are_all
