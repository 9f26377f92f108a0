-- The refusals of views as the definitions have them.
use Rattle.std.specs.Prelude.{Result, Ok, Err}
use Rattle.nd_model.specs.Cells.Fault as model
use Rattle.nd_model.specs.Arrays.View.{Geo}
use Rattle.nd_view.specs.declared.fault.ViewFault.{ViewFault}
use Rattle.nd_view.specs.declared.fault.ViewFault.TheVariants.{OutOfBlock, TooManyAxes, TooManyElements, AxesDiffer}

abbrev pub view_fault_of : ViewFault → model.ViewFault
view_fault_of OutOfBlock = model.OutOfBlock
view_fault_of TooManyAxes = model.TooManyAxes
view_fault_of TooManyElements = model.TooManyElements
view_fault_of AxesDiffer = model.AxesDiffer

-- a view, or why there is none
abbrev pub view_given : Result Geo ViewFault → Result Geo model.ViewFault
view_given (Ok g) = Ok g
view_given (Err e) = Err (view_fault_of e)
