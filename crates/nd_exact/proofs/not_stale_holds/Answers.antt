use Rattle.nd_exact.proofs.Need.{not_stale_holds}
use Rattle.nd_exact.proofs.not_stale_holds.Goals as goal

pub returns : goal.returns
returns c = not_stale_holds
