use Rattle.nd_exact.proofs.Written.{runs_are_determined}
use Rattle.nd_exact.proofs.scripts.runs_are_determined.Goals as goal

pub returns : goal.returns
returns c = runs_are_determined
