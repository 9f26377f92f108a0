-- Other shapes of values, as the definitions have them.
use Rattle.std.specs.Prelude.{◌≡◌, true, Result, Ok, Err}
use Rattle.nd_model.specs.Arrays.Tuple.{elements_of}
use Rattle.nd_model.specs.Arrays.View.{Geo}
use Rattle.nd_model.specs.Cells.Fault.{Fault}
use Rattle.nd_model.specs.Making.Operand as operand
use Rattle.nd_model.specs.Cells.Evaluation.{Refuses, ◌>>=◌, decide}
use Rattle.nd_model.specs.Cells.Operation.{choose_of_number}
use Rattle.nd_model.specs.Indexing.ShapeChoices.{reshaped_choice}
use Rattle.nd_shape.specs.declared.reshaping.Reshaped.{Reshaped}
use Rattle.nd_shape.specs.declared.reshaping.Reshaped.TheVariants.{View, Copy}
use Rattle.nd_shape.specs.NewShapes.{reshaped_of}
use Rattle.nd_operation.specs.declared.operators.operand.New.{New}
use Rattle.nd_operation.specs.declared.operators.operand.Operand.{Operand}
use Rattle.nd_operation.specs.declared.operators.operand.Operand.TheVariants.{Number, Elements as ElementsOperand}
use Rattle.nd_operation.specs.declared.refusals.stop.Stop.{Stop}
use Rattle.nd_operation.specs.declared.refusals.stop.Stop.TheVariants.{Memory, Refused}
use Rattle.nd_operation.specs.Refusals.Faults.{fault_of}
use Rattle.nd_operation.specs.Operators.New.{given}

-- what is chosen of an array that gets another shape
abbrev pub choice_of : Geo → Reshaped → operand.Chosen
choice_of g r = reshaped_choice g (reshaped_of r)

-- the shape of a copy has as many elements
abbrev pub HasAsMany : Geo → Reshaped → Type 0
HasAsMany g (View h) = Unit {0}
HasAsMany g (Copy shape) = elements_of shape.items ≡ elements_of g.shape

-- a number or a row: it is no array
abbrev pub IsAlone : Operand → Type 0
IsAlone (Number n) = Unit {0}
IsAlone (ElementsOperand e) = e.is_row ≡ true

-- what is given of what was chosen of no array, unless memory ran out
abbrev pub MakesStretched : Result New Stop → Result operand.Chosen Fault → Type 0
MakesStretched (Ok n) chosen = (decide chosen >>= choose_of_number) ≡ given n
MakesStretched (Err (Memory m)) chosen = Unit {0}
MakesStretched (Err (Refused f)) chosen = (decide chosen >>= choose_of_number) ≡ Refuses (fault_of f)
