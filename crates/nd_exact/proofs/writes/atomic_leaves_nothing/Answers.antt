use Rattle.nd_exact.proofs.WriteRows.{atomic_leaves_nothing}
use Rattle.nd_exact.proofs.writes.atomic_leaves_nothing.Goals as goal

pub returns : goal.returns
returns c = atomic_leaves_nothing
