use Rattle.nd_exact.proofs.WriteRows.{save_leaves_nothing}
use Rattle.nd_exact.proofs.writes.save_leaves_nothing.Goals as goal

pub returns : goal.returns
returns c = save_leaves_nothing
