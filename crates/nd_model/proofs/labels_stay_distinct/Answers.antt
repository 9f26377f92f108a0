use Rattle.nd_model.proofs.EditLabels.{labels_stay_distinct}
use Rattle.nd_model.proofs.labels_stay_distinct.Goals as goal

pub returns : goal.returns
returns c = labels_stay_distinct
