use Rattle.nd_model.proofs.Frames.{frame}
use Rattle.nd_model.proofs.frame.Goals as goal

pub returns : goal.returns
returns c = frame
