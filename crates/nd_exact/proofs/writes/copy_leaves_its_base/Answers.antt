use Rattle.nd_exact.proofs.WriteRows.{copy_leaves_its_base}
use Rattle.nd_exact.proofs.writes.copy_leaves_its_base.Goals as goal

pub returns : goal.returns
returns c = copy_leaves_its_base
