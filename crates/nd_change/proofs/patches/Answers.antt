use Rattle.nd_change.proofs.Snapshots.{patches}
use Rattle.nd_change.proofs.patches.Goals as goal

pub returns : goal.returns
returns c = patches
