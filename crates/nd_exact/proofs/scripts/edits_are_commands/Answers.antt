use Rattle.nd_exact.proofs.Alike.{edits_are_commands}
use Rattle.nd_exact.proofs.scripts.edits_are_commands.Goals as goal

pub returns : goal.returns
returns c = edits_are_commands
