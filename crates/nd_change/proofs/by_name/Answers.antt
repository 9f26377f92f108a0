use Rattle.nd_change.proofs.Named.{by_name}
use Rattle.nd_change.proofs.by_name.Goals as goal

pub returns : goal.returns
returns c = by_name
