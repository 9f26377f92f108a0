use Rattle.nd_exact.proofs.Written.{command_is_determined}
use Rattle.nd_exact.proofs.scripts.command_is_determined.Goals as goal

pub returns : goal.returns
returns c = command_is_determined
