use Rattle.nd_exact.proofs.WriteRows.{view_leaves_its_name}
use Rattle.nd_exact.proofs.writes.view_leaves_its_name.Goals as goal

pub returns : goal.returns
returns c = view_leaves_its_name
