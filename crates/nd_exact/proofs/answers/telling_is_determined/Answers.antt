use Rattle.nd_exact.proofs.Settled.{telling_is_determined}
use Rattle.nd_exact.proofs.answers.telling_is_determined.Goals as goal

pub returns : goal.returns
returns c = telling_is_determined
