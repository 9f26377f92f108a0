use Rattle.nd_model.proofs.Parsing.Texts.{one_fault}
use Rattle.nd_model.proofs.grammar.one_fault.Goals as goal

pub returns : goal.returns
returns c = one_fault
