use Rattle.nd_exact.proofs.WriteRows.{deletion_leaves_its_name}
use Rattle.nd_exact.proofs.writes.deletion_leaves_its_name.Goals as goal

pub returns : goal.returns
returns c = deletion_leaves_its_name
