use Rattle.nd_change.proofs.Changes.{overwrites}
use Rattle.nd_change.proofs.overwrites.Goals as goal

pub returns : goal.returns
returns c = overwrites
