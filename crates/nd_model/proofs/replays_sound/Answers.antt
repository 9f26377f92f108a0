use Rattle.nd_model.proofs.Replaying.{replays_sound}
use Rattle.nd_model.proofs.replays_sound.Goals as goal

pub returns : goal.returns
returns c = replays_sound
