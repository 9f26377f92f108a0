use Rattle.std.specs.Int.{w64}
use Rattle.std.proofs.lemmas.Int.{wrapping_mul_is}
use Rattle.nd_ufunc.proofs.scalar.integers.wrapping_multiply64.Goals as goal

pub returns : goal.returns
returns c = wrapping_mul_is w64 c.args.left c.args.right c.ranges.left c.ranges.right
