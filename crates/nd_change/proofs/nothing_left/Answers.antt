use Rattle.nd_change.proofs.Snapshots.{nothing_left}
use Rattle.nd_change.proofs.nothing_left.Goals as goal

pub returns : goal.returns
returns c = nothing_left
