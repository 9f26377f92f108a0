use Rattle.nd_model.proofs.TokenLaws.{whole_statements}
use Rattle.nd_model.proofs.grammar.whole_statements.Goals as goal

pub returns : goal.returns
returns c = whole_statements
