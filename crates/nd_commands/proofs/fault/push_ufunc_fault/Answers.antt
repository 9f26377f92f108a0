use Rattle.std.proofs.Common.{rules}
use Rattle.nd_script.proofs.lines.Answers.{pushes_same, pushes_trans}
use Rattle.nd_commands.proofs.fault.push_ufunc_fault.Goals as goal

pub returns-in-FloatResult : goal.returns-in-FloatResult
returns-in-FloatResult g c = rw c.in-FloatResult.is c.push_text.ensures

pub returns-in-IntOutOfRange : goal.returns-in-IntOutOfRange
returns-in-IntOutOfRange g c = rw c.in-IntOutOfRange.is (pushes_same (search rules) (pushes_trans c.push_text-in-IntOutOfRange.ensures c.push_integer.ensures))

pub returns-in-ShapeMismatch : goal.returns-in-ShapeMismatch
returns-in-ShapeMismatch g c = rw c.in-ShapeMismatch.is c.push_text-in-ShapeMismatch.ensures

pub returns-in-ReadOnly : goal.returns-in-ReadOnly
returns-in-ReadOnly g c = rw c.in-ReadOnly.is c.push_text-in-ReadOnly.ensures

pub returns-in-NotNumbers : goal.returns-in-NotNumbers
returns-in-NotNumbers g c = rw c.in-NotNumbers.is c.push_text-in-NotNumbers.ensures

pub returns-in-BoolOp : goal.returns-in-BoolOp
returns-in-BoolOp g c = rw c.in-BoolOp.is c.push_text-in-BoolOp.ensures

pub returns-in-KindCast : goal.returns-in-KindCast
returns-in-KindCast g c = rw c.in-KindCast.is c.push_text-in-KindCast.ensures

pub returns-in-NegativePower : goal.returns-in-NegativePower
returns-in-NegativePower g c = rw c.in-NegativePower.is c.push_text-in-NegativePower.ensures
