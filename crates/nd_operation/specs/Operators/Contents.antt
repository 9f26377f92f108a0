-- What the operands of an operation stand for.
use Rattle.std.specs.Prelude.{ℕ, Bool, true, false, List, []}
use Rattle.nd_model.specs.Arrays.View.{Geo}
use Rattle.nd_model.specs.Making.Operand as operand
pub use Rattle.nd_ufunc.specs.Scalar.Numbers.{num_of, number_made}
pub use Rattle.nd_ufunc.specs.Elementwise.Arguments.{contents_over}
use Rattle.nd_heap.specs.declared.value.Value.{Value}
use Rattle.nd_heap.specs.declared.value.Value.TheVariants as value
use Rattle.nd_heap.specs.Values.{geo_of}
use Rattle.nd_operation.specs.declared.operators.operand.Operand.{Operand}
use Rattle.nd_operation.specs.declared.operators.operand.Operand.TheVariants.{Number, Elements as ElementsOperand}
use Rattle.nd_operation.specs.declared.operators.operand.BorrowedArray.{BorrowedArray}

abbrev pub elements_over : (row : Bool) → Geo → List ℕ → operand.Operand
elements_over row g block = operand.Elements row g (contents_over g block)

abbrev pub elements_operand : BorrowedArray → operand.Operand
elements_operand e = elements_over e.is_row e.view.now e.block.now

-- an operand that is used
abbrev pub operand_of : Operand → operand.Operand
operand_of (Number n) = operand.Plain (num_of n)
operand_of (ElementsOperand e) = elements_operand e

-- an operand that is not used
abbrev pub unused_of : Value → operand.Operand
unused_of (value.Number n) = operand.Plain (num_of n)
unused_of (value.Array a) = operand.Elements false (geo_of a) []
unused_of (value.Row a) = operand.Elements true (geo_of a) []
