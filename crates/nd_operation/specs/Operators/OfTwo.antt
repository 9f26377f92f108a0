-- What operators and functions of two operands make.
use Rattle.std.specs.Prelude.{Result}
use Rattle.nd_model.specs.Cells.Fault.{Fault}
use Rattle.nd_model.specs.Making.Operand.{Operand, Made}
use Rattle.nd_model.specs.Making.Operators.{BinaryUfunc, Operator}
use Rattle.nd_model.specs.Making.Elementwise.{binary, call_binary}
use Rattle.nd_syntax.specs.Trees.Syntax.{binary_op}
use Rattle.nd_ufunc.specs.Scalar.Ufuncs.{ufunc_of}
use Rattle.nd_operation.specs.declared.operators.operators.BinaryCall.{BinaryCall}
use Rattle.nd_operation.specs.declared.operators.operators.BinaryCall.TheVariants as two

-- the function of NumPy that arrays are given to
abbrev pub ufunc_of_two : BinaryCall → BinaryUfunc
ufunc_of_two (two.Operator op) = Operator (binary_op op)
ufunc_of_two (two.Call f) = ufunc_of f

abbrev pub made_of_two : BinaryCall → Operand → Operand → Result Made Fault
made_of_two (two.Operator op) = binary (binary_op op)
made_of_two (two.Call f) = call_binary (ufunc_of f)
