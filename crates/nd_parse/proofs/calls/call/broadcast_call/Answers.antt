use Rattle.nd_syntax.proofs.trees.Nodes.{broadcast_is}
use Rattle.nd_parse.proofs.calls.call.broadcast_call.Goals as goal

pub returns : goal.returns
returns c = broadcast_is c.args.value c.args.shape
