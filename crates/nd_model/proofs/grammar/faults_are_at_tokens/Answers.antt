use Rattle.nd_model.proofs.Parsing.Ends.{fault_is_at_token}
use Rattle.nd_model.proofs.grammar.faults_are_at_tokens.Goals as goal

pub returns : goal.returns
returns c = fault_is_at_token
