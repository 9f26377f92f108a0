use Rattle.nd_exact.proofs.WriteRows.{print_leaves_nothing}
use Rattle.nd_exact.proofs.writes.print_leaves_nothing.Goals as goal

pub returns : goal.returns
returns c = print_leaves_nothing
