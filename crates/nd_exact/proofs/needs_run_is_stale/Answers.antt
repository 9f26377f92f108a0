use Rattle.nd_exact.proofs.Need.{needs_run_is_stale}
use Rattle.nd_exact.proofs.needs_run_is_stale.Goals as goal

pub returns : goal.returns
returns c = needs_run_is_stale
