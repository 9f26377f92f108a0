use Rattle.nd_exact.proofs.Written.{scripts_are_determined}
use Rattle.nd_exact.proofs.scripts.scripts_are_determined.Goals as goal

pub returns : goal.returns
returns c = scripts_are_determined
