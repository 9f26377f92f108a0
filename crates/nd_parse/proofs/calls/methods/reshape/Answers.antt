use Rattle.nd_syntax.proofs.trees.Nodes.{reshape_is}
use Rattle.nd_parse.proofs.calls.methods.reshape.Goals as goal

pub returns : goal.returns
returns c = reshape_is c.args.lengths
