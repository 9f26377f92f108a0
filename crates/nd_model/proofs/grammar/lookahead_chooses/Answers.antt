use Rattle.nd_model.proofs.Parsing.Places.{chooses}
use Rattle.nd_model.proofs.grammar.lookahead_chooses.Goals as goal

pub returns : goal.returns
returns c = chooses
