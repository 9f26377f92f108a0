-- The refusals of the program as the definitions have them.
use Rattle.std.specs.Prelude.{string_bytes}
use Rattle.nd_model.specs.Cells.Fault as model
use Rattle.nd_model.specs.Making.ReduceFault as reduce
use Rattle.nd_npy.specs.Pep3118.Gives.{fault_of as format_fault_of}
use Rattle.nd_npy.specs.Header.Gives.{fault_of as npy_fault_of}
pub use Rattle.nd_view.specs.Faults.{view_fault_of}
use Rattle.nd_shape.specs.Faults.{fault_of as shape_fault_of}
pub use Rattle.nd_ufunc.specs.Scalar.Faults.{ufunc_fault_of}
use Rattle.nd_index.specs.declared.basic.fault.SelectFault.{SelectFault}
use Rattle.nd_index.specs.declared.basic.fault.SelectFault.TheVariants as select_fault
use Rattle.nd_operation.specs.declared.refusals.fault.IndexFault.{IndexFault}
use Rattle.nd_operation.specs.declared.refusals.fault.IndexFault.TheVariants.{OutOfBounds, TooManyIndices, ZeroStep, NotAnIndex, TwoEllipses, NoField, MaskShape, IndexShapes}
use Rattle.nd_operation.specs.declared.refusals.fault.ReduceFault.{ReduceFault}
use Rattle.nd_operation.specs.declared.refusals.fault.ReduceFault.TheVariants.{EmptyReduce, NoAxis, NotNumbers}
use Rattle.nd_operation.specs.declared.refusals.fault.StmtError.{StmtError}
use Rattle.nd_operation.specs.declared.refusals.fault.StmtError.TheVariants.{NoName, NoInput, IntTooBig, ZeroDivide, NegativeShift, NeedsType, RaggedList, NotAnArray, TextTooLong, BadArgument, BadType}
use Rattle.nd_operation.specs.declared.refusals.fault.StmtFault.{StmtFault}
use Rattle.nd_operation.specs.declared.refusals.fault.StmtFault.TheVariants.{Format, Npy, View, Index, Shape, Ufunc, Reduce, Stmt}

abbrev pub index_fault_of : IndexFault → model.IndexFault
index_fault_of (OutOfBounds axis index size) = model.OutOfBounds axis index size
index_fault_of TooManyIndices = model.TooManyIndices
index_fault_of ZeroStep = model.ZeroStep
index_fault_of NotAnIndex = model.NotAnIndex
index_fault_of TwoEllipses = model.TwoEllipses
index_fault_of (NoField n) = model.NoField (string_bytes n)
index_fault_of (MaskShape axis) = model.MaskShape axis
index_fault_of IndexShapes = model.IndexShapes

abbrev pub reduce_fault_of : ReduceFault → reduce.ReduceFault
reduce_fault_of EmptyReduce = reduce.EmptyReduce
reduce_fault_of NoAxis = reduce.NoAxis
reduce_fault_of NotNumbers = reduce.NotNumbers

abbrev pub stmt_error_of : StmtError → model.StmtFault
stmt_error_of (NoName n) = model.NoName (string_bytes n)
stmt_error_of (NoInput n) = model.NoInput (string_bytes n)
stmt_error_of IntTooBig = model.IntTooBig
stmt_error_of ZeroDivide = model.ZeroDivide
stmt_error_of NegativeShift = model.NegativeShift
stmt_error_of NeedsType = model.NeedsType
stmt_error_of RaggedList = model.RaggedList
stmt_error_of NotAnArray = model.NotAnArray
stmt_error_of TextTooLong = model.TextTooLong
stmt_error_of BadArgument = model.BadArgument
stmt_error_of BadType = model.BadType

abbrev pub fault_of : StmtFault → model.Fault
fault_of (Format f) = model.Format (format_fault_of f)
fault_of (Npy f) = model.Npy (npy_fault_of f)
fault_of (View f) = model.View (view_fault_of f)
fault_of (Index f) = model.Index (index_fault_of f)
fault_of (Shape f) = shape_fault_of f
fault_of (Ufunc f) = model.Ufunc (ufunc_fault_of f)
fault_of (Reduce f) = model.Reduce (reduce_fault_of f)
fault_of (Stmt f) = model.Stmt (stmt_error_of f)

-- what a basic index refuses
abbrev pub refusal_of_select : SelectFault → StmtFault
refusal_of_select select_fault.TwoEllipses = Index TwoEllipses
refusal_of_select select_fault.TooManyIndices = Index TooManyIndices
refusal_of_select select_fault.ZeroStep = Index ZeroStep
refusal_of_select (select_fault.OutOfBounds axis index size) = Index (OutOfBounds axis index size)
refusal_of_select (select_fault.View f) = View f
