use Rattle.std.proofs.Common.{arith}
use Rattle.nd_ufunc.proofs.loops.Ranges.{in_range}
use Rattle.nd_ufunc.proofs.loops.reading.numbers_are_valid.Goals as goal

pub returns : goal.returns
returns c = in_range c.args.elem c.args.bytes.now (λ i. omega (arith, c.type_inv.bytes i))
