use Rattle.nd_exact.proofs.Alike.{commands_are_edits}
use Rattle.nd_exact.proofs.scripts.commands_are_edits.Goals as goal

pub returns : goal.returns
returns c = commands_are_edits
