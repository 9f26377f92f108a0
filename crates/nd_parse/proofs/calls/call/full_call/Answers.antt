use Rattle.nd_syntax.proofs.trees.Nodes.{full_is}
use Rattle.nd_parse.proofs.calls.call.full_call.Goals as goal

pub returns : goal.returns
returns c = full_is c.args.shape c.args.value c.args.dtype
