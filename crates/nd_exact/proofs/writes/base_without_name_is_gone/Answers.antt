use Rattle.nd_exact.proofs.WriteRows.{base_without_name_is_gone}
use Rattle.nd_exact.proofs.writes.base_without_name_is_gone.Goals as goal

pub returns : goal.returns
returns c = base_without_name_is_gone
