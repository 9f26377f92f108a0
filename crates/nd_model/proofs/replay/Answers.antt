use Rattle.nd_model.proofs.Tracks.{replay}
use Rattle.nd_model.proofs.replay.Goals as goal

pub returns : goal.returns
returns c = replay
