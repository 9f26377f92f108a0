use Rattle.nd_syntax.proofs.trees.Nodes.{transpose_is}
use Rattle.nd_parse.proofs.calls.methods.transpose.Goals as goal

pub returns : goal.returns
returns c = transpose_is c.args.axes
