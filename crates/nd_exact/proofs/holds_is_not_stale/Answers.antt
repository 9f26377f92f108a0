use Rattle.nd_exact.proofs.Need.{holds_is_not_stale}
use Rattle.nd_exact.proofs.holds_is_not_stale.Goals as goal

pub returns : goal.returns
returns c = holds_is_not_stale
