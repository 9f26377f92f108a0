use Rattle.nd_change.proofs.Snapshots.{alike_runs}
use Rattle.nd_change.proofs.alike_runs.Goals as goal

pub returns : goal.returns
returns c = alike_runs
