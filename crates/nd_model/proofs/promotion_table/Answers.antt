use Rattle.std.proofs.Common.{refl}
use Rattle.nd_model.proofs.promotion_table.Goals as goal

pub returns : goal.returns
returns c = refl
