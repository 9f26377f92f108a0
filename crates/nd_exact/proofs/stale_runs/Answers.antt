use Rattle.nd_exact.proofs.Need.{stale_runs}
use Rattle.nd_exact.proofs.stale_runs.Goals as goal

pub returns : goal.returns
returns c = stale_runs
