use Rattle.std.specs.Int.{w128}
use Rattle.std.proofs.lemmas.Int.{wrapping_add_is}
use Rattle.nd_ufunc.proofs.scalar.integers.wrapping_add.Goals as goal

pub returns : goal.returns
returns c = wrapping_add_is w128 c.args.left c.args.right c.ranges.left c.ranges.right
