-- The refusals of indexes as the definitions have them.
use Rattle.std.specs.Prelude.{Result, Ok, Err}
use Rattle.nd_model.specs.Cells.Fault as model
use Rattle.nd_model.specs.Arrays.View.{Geo}
use Rattle.nd_view.specs.Faults.{view_fault_of}
use Rattle.nd_index.specs.declared.basic.fault.SelectFault.{SelectFault}
use Rattle.nd_index.specs.declared.basic.fault.SelectFault.TheVariants.{TwoEllipses, TooManyIndices, ZeroStep, OutOfBounds, View}

abbrev pub fault_of : SelectFault → model.Fault
fault_of TwoEllipses = model.Index model.TwoEllipses
fault_of TooManyIndices = model.Index model.TooManyIndices
fault_of ZeroStep = model.Index model.ZeroStep
fault_of (OutOfBounds axis index size) = model.Index (model.OutOfBounds axis index size)
fault_of (View f) = model.View (view_fault_of f)

-- a view, or why there is none
abbrev pub given : Result Geo SelectFault → Result Geo model.Fault
given (Ok g) = Ok g
given (Err e) = Err (fault_of e)
