use Rattle.nd_model.proofs.Storing.{stores_by_parts}
use Rattle.nd_model.proofs.stores_by_parts.Goals as goal

pub returns : goal.returns
returns c = stores_by_parts
