use Rattle.nd_exact.proofs.Alike.{tells_are_commands}
use Rattle.nd_exact.proofs.scripts.tells_are_commands.Goals as goal

pub returns : goal.returns
returns c = tells_are_commands
