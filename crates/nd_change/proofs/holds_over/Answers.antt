use Rattle.nd_change.proofs.Changes.{holds_over}
use Rattle.nd_change.proofs.holds_over.Goals as goal

pub returns : goal.returns
returns c = holds_over
