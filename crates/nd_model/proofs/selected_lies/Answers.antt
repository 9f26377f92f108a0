use Rattle.nd_model.proofs.Selected.{selected_lies}
use Rattle.nd_model.proofs.selected_lies.Goals as goal

pub returns : goal.returns
returns c = selected_lies
