use Rattle.nd_exact.proofs.Places.{record_is_kept}
use Rattle.nd_exact.proofs.record_is_kept.Goals as goal

pub returns : goal.returns
returns c = record_is_kept
