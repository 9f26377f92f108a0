use Rattle.nd_change.proofs.Snapshots.{over_alike}
use Rattle.nd_change.proofs.over_alike.Goals as goal

pub returns : goal.returns
returns c = over_alike
