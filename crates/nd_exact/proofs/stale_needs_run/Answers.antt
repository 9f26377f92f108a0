use Rattle.nd_exact.proofs.Need.{stale_needs_run}
use Rattle.nd_exact.proofs.stale_needs_run.Goals as goal

pub returns : goal.returns
returns c = stale_needs_run
