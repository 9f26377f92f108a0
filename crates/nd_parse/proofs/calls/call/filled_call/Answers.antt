use Rattle.nd_syntax.proofs.trees.Nodes.{filled_is}
use Rattle.nd_parse.proofs.calls.call.filled_call.Goals as goal

pub returns : goal.returns
returns c = filled_is c.args.fill c.args.shape c.args.dtype
