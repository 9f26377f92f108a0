use Rattle.nd_exact.proofs.Written.{cuts_are_fronts}
use Rattle.nd_exact.proofs.scripts.cuts_are_fronts.Goals as goal

pub returns : goal.returns
returns c = cuts_are_fronts
