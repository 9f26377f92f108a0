use Rattle.nd_model.proofs.TokenLaws.{few_words}
use Rattle.nd_model.proofs.grammar.few_words.Goals as goal

pub returns : goal.returns
returns c = few_words
