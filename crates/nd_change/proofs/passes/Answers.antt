use Rattle.nd_change.proofs.Changes.{passes}
use Rattle.nd_change.proofs.passes.Goals as goal

pub returns : goal.returns
returns c = passes
