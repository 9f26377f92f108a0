use Rattle.nd_exact.proofs.Places.{kept_is_its_record}
use Rattle.nd_exact.proofs.kept_is_its_record.Goals as goal

pub returns : goal.returns
returns c = kept_is_its_record
