use Rattle.nd_model.proofs.Keeping.{kept}
use Rattle.nd_model.proofs.record_stands.Goals as goal

pub returns : goal.returns
returns c = kept
