use Rattle.nd_exact.proofs.Need.{no_fewer_runs}
use Rattle.nd_exact.proofs.no_fewer_runs.Goals as goal

pub returns : goal.returns
returns c = no_fewer_runs
