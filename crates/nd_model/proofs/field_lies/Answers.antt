use Rattle.nd_model.proofs.Fielded.{field_lies}
use Rattle.nd_model.proofs.field_lies.Goals as goal

pub returns : goal.returns
returns c = field_lies
