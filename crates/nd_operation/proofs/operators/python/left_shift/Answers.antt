use Rattle.std.proofs.Common.{arith}
use Rattle.std.proofs.lemmas.Nat.{pow_below}
use Rattle.nd_operation.proofs.operators.WholeNumbers.{far_shift}
use Rattle.nd_ufunc.proofs.scalar.WholeNumbers.{not_zero}
use Rattle.nd_operation.proofs.operators.python.left_shift.Goals as goal

pub returns-then-count-gt126 : goal.returns-then-count-gt126
returns-then-count-gt126 c = far_shift c.args.number c.args.count (not_zero c.args.number c.if-number-eq0.false) (omega arith)

pub pow-requires : goal.pow-requires
pow-requires c = record { sfits = pow_below c.args.count 127 (omega arith) }
