use Rattle.nd_model.proofs.Labels.{any_labels}
use Rattle.nd_model.proofs.any_labels.Goals as goal

pub returns : goal.returns
returns c = any_labels
