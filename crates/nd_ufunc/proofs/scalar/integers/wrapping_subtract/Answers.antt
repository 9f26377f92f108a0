use Rattle.std.specs.Int.{w128}
use Rattle.std.proofs.lemmas.Int.{wrapping_sub_is}
use Rattle.nd_ufunc.proofs.scalar.integers.wrapping_subtract.Goals as goal

pub returns : goal.returns
returns c = wrapping_sub_is w128 c.args.left c.args.right c.ranges.left c.ranges.right
