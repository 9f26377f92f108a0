-- The refusals of other shapes as the definitions have them.
use Rattle.std.specs.Prelude.{Result, Ok, Err}
use Rattle.nd_model.specs.Cells.Fault.{Fault, Shape}
use Rattle.nd_model.specs.Cells.Fault as fault
use Rattle.nd_model.specs.Indexing.ShapeFault as model
use Rattle.nd_model.specs.Arrays.View.{Geo}
use Rattle.nd_view.specs.Faults.{view_fault_of}
use Rattle.nd_shape.specs.declared.fault.ShapeFault.{ShapeFault}
use Rattle.nd_shape.specs.declared.fault.ShapeFault.TheVariants.{BadAxes, ShapeMismatch, ItemSizes, TwoUnknown, SizeMismatch, View}

abbrev pub fault_of : ShapeFault → Fault
fault_of BadAxes = Shape model.BadAxes
fault_of ShapeMismatch = Shape model.ShapeMismatch
fault_of ItemSizes = fault.View fault.ItemSizes
fault_of TwoUnknown = Shape model.TwoUnknown
fault_of SizeMismatch = Shape model.SizeMismatch
fault_of (View f) = fault.View (view_fault_of f)

-- a view, or why there is none
abbrev pub given : Result Geo ShapeFault → Result Geo Fault
given (Ok g) = Ok g
given (Err e) = Err (fault_of e)
