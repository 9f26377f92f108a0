use Rattle.nd_model.proofs.RuleReading.{rule_is_read}
use Rattle.nd_model.proofs.rule_is_read.Goals as goal

pub returns : goal.returns
returns c = rule_is_read
