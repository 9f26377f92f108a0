use Rattle.nd_model.proofs.Parsing.Texts.{one_meaning}
use Rattle.nd_model.proofs.grammar.one_meaning.Goals as goal

pub returns : goal.returns
returns c = one_meaning
