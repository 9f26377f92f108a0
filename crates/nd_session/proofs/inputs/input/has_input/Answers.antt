use Rattle.nd_session.proofs.inputs.Inputs.{none_lent}
use Rattle.nd_session.proofs.inputs.input.has_input.Goals as goal

pub returns : goal.returns
returns c = none_lent c.find_input.result _ _ c.find_input.ensures c.is_some.ensures
