use Rattle.nd_model.proofs.FewTokens.{few_tokens}
use Rattle.nd_model.proofs.grammar.few_tokens.Goals as goal

pub returns : goal.returns
returns c = few_tokens
