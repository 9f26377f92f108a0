use Rattle.std.proofs.Common.{◌≡◌, ℤ, ◌*ℤ◌, false, Result, sym, ap, subst, ◌∙◌}
use Rattle.std.specs.Prelude.{not}
use mir.Facts.{to_z-of_z}
use Rattle.nd_model.specs.Cells.Fault.{Fault, Stmt, ZeroDivide}
use Rattle.nd_model.specs.Cells.Refusing as refusing
use Rattle.nd_model.specs.Grammar.Syntax as syntax
use Rattle.nd_model.specs.Making.Operand.{Made, python_int}
use Rattle.nd_model.specs.Making.Operators as operators
use Rattle.nd_syntax.specs.declared.trees.tree.BinaryOp.{BinaryOp}
use Rattle.nd_syntax.specs.Trees.Syntax.{binary_op}
use Rattle.nd_operation.specs.Operators.Contents.{number_made}
use Rattle.nd_operation.specs.Refusals.Ends.{Says}
use Rattle.nd_operation.proofs.operators.python.arithmetic.Goals as goal

quotient_of : (a b : ℤ) → operators.is_zero b ≡ false → operators.arithmetic syntax.FloorDivide a b ≡ python_int (operators.floor_quotient a b)
quotient_of a b some = ap (λ t. refusing.when (not t) (Stmt ZeroDivide) (python_int (operators.floor_quotient a b))) some

pub returns-in-Multiply : goal.returns-in-Multiply
returns-in-Multiply c =
    let a = c.args.left in
    let b = c.args.right in
    subst (λ (op : BinaryOp). Says number_made c.python_int-in-Multiply.result (operators.arithmetic (binary_op op) a b)) (sym c.in-Multiply.is)
    (c.python_int-in-Multiply.ensures (a *ℤ b) (simp (to_z-of_z, c.ranges.left, c.ranges.right) at c.checked_mul.ensures))

pub returns-else-is_zero : goal.returns-else-is_zero
returns-else-is_zero c =
    let a = c.args.left in
    let b = c.args.right in
    let some : operators.is_zero b ≡ false = sym (simp (to_z-of_z, c.ranges.right) at c.is_zero.ensures) ∙ c.if-is_zero.false in
    let made = simp (to_z-of_z, c.ranges.left, c.ranges.right) at c.floor_quotient.ensures in
    subst (λ (m : Result Made Fault). Says number_made c.floor_quotient.result m)
    (sym (ap (λ (op : BinaryOp). operators.arithmetic (binary_op op) a b) c.in-FloorDivide.is ∙ quotient_of a b some)) made
