use Rattle.nd_change.proofs.Snapshots.{alike_replays}
use Rattle.nd_change.proofs.alike_replays.Goals as goal

pub returns : goal.returns
returns c = alike_replays
