use Rattle.nd_change.proofs.Changes.{goes_on}
use Rattle.nd_change.proofs.goes_on.Goals as goal

pub returns : goal.returns
returns c = goes_on
