use Rattle.nd_exact.proofs.WriteRows.{store_leaves_gaps}
use Rattle.nd_exact.proofs.writes.store_leaves_gaps.Goals as goal

pub returns : goal.returns
returns c = store_leaves_gaps
