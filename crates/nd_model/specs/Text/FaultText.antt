-- The texts of refusals, as a script is answered.
use Rattle.std.specs.Prelude.{ℕ, List, ◌++◌, codes, decimal}
use Rattle.std.specs.Fmt.{signed_decimal}
use Rattle.nd_model.specs.Cells.Fault.{ViewFault, OutOfBlock, TooManyAxes, TooManyElements, AxesDiffer, ItemSizes, IndexFault, OutOfBounds, TooManyIndices, ZeroStep, NotAnIndex, TwoEllipses, NoField, MaskShape, IndexShapes, UfuncFault, FloatResult, IntOutOfRange, BoolOp, KindCast, NegativePower, ShapeMismatch, ReadOnly, NotNumbers, StmtFault, NoName, NoInput, IntTooBig, ZeroDivide, NegativeShift, NeedsType, RaggedList, NotAnArray, TextTooLong, BadArgument, BadType, Fault, Format, Npy, View, Index, Shape, Ufunc, Reduce, Stmt, ParseKind, BadToken, Unexpected, TooDeep, TooManyStatements, UnknownCall, LeftOut, Refusal, Parse, Statement}
use Rattle.nd_model.specs.Indexing.ShapeFault as shape
use Rattle.nd_model.specs.Indexing.ShapeFault.{ShapeFault}
use Rattle.nd_model.specs.Formats.FormatFault as format
use Rattle.nd_model.specs.Formats.FormatFault.{FormatFault}
use Rattle.nd_model.specs.Formats.NpyFault as npy
use Rattle.nd_model.specs.Formats.NpyFault.{NpyFault}
use Rattle.nd_model.specs.Making.ReduceFault as reduce
use Rattle.nd_model.specs.Making.ReduceFault.{ReduceFault}
use Rattle.nd_model.specs.Book.Book as book
use Rattle.nd_model.specs.Book.Book.{EditFault, TooManyCells, CellTooLong, BadInputName, InputTooLarge, NoInputNamed, QueryFault}

abbrev pub format_text : FormatFault → List ℕ
format_text (format.UnknownCode at) = codes "UnknownCode " ++ decimal at
format_text (format.Unclosed at) = codes "Unclosed " ++ decimal at
format_text (format.NoName at) = codes "NoName " ++ decimal at
format_text (format.DoubleName at) = codes "DoubleName " ++ decimal at
format_text (format.CountNotHere at) = codes "CountNotHere " ++ decimal at
format_text format.LargerThanItem = codes "LargerThanItem"
format_text format.TooManyFields = codes "TooManyFields"
format_text format.BadItemSize = codes "BadItemSize"

abbrev pub npy_text : NpyFault → List ℕ
npy_text npy.BadMagic = codes "BadMagic"
npy_text npy.BadVersion = codes "BadVersion"
npy_text npy.Truncated = codes "Truncated"
npy_text (npy.NotText at) = codes "NotText " ++ decimal at
npy_text (npy.BadHeader at) = codes "BadHeader " ++ decimal at
npy_text npy.BadKeys = codes "BadKeys"
npy_text npy.BadDescr = codes "BadDescr"
npy_text npy.TooLarge = codes "TooLarge"

abbrev pub view_text : ViewFault → List ℕ
view_text OutOfBlock = codes "OutOfBlock"
view_text TooManyAxes = codes "TooManyAxes"
view_text TooManyElements = codes "TooManyElements"
view_text AxesDiffer = codes "AxesDiffer"
view_text ItemSizes = codes "ItemSizes"

abbrev pub index_text : IndexFault → List ℕ
index_text (OutOfBounds axis index size) = codes "OutOfBounds " ++ decimal axis ++ codes " " ++ signed_decimal index ++ codes " " ++ decimal size
index_text TooManyIndices = codes "TooManyIndices"
index_text ZeroStep = codes "ZeroStep"
index_text NotAnIndex = codes "NotAnIndex"
index_text TwoEllipses = codes "TwoEllipses"
index_text (NoField name) = codes "NoField " ++ name
index_text (MaskShape axis) = codes "MaskShape " ++ decimal axis
index_text IndexShapes = codes "IndexShapes"

abbrev pub shape_text : ShapeFault → List ℕ
shape_text shape.BadAxes = codes "BadAxes"
shape_text shape.ShapeMismatch = codes "ShapeMismatch"
shape_text shape.TwoUnknown = codes "TwoUnknown"
shape_text shape.SizeMismatch = codes "SizeMismatch"

abbrev pub ufunc_text : UfuncFault → List ℕ
ufunc_text FloatResult = codes "FloatResult"
ufunc_text (IntOutOfRange number) = codes "IntOutOfRange " ++ signed_decimal number
ufunc_text BoolOp = codes "BoolOp"
ufunc_text KindCast = codes "KindCast"
ufunc_text NegativePower = codes "NegativePower"
ufunc_text ShapeMismatch = codes "ShapeMismatch"
ufunc_text ReadOnly = codes "ReadOnly"
ufunc_text NotNumbers = codes "NotNumbers"

abbrev pub reduce_text : ReduceFault → List ℕ
reduce_text reduce.EmptyReduce = codes "EmptyReduce"
reduce_text reduce.NoAxis = codes "NoAxis"
reduce_text reduce.NotNumbers = codes "NotNumbers"

abbrev pub stmt_text : StmtFault → List ℕ
stmt_text (NoName name) = codes "NoName " ++ name
stmt_text (NoInput name) = codes "NoInput " ++ name
stmt_text IntTooBig = codes "IntTooBig"
stmt_text ZeroDivide = codes "ZeroDivide"
stmt_text NegativeShift = codes "NegativeShift"
stmt_text NeedsType = codes "NeedsType"
stmt_text RaggedList = codes "RaggedList"
stmt_text NotAnArray = codes "NotAnArray"
stmt_text TextTooLong = codes "TextTooLong"
stmt_text BadArgument = codes "BadArgument"
stmt_text BadType = codes "BadType"

abbrev pub fault_text : Fault → List ℕ
fault_text (Format f) = codes "Format." ++ format_text f
fault_text (Npy f) = codes "Npy." ++ npy_text f
fault_text (View f) = codes "View." ++ view_text f
fault_text (Index f) = codes "Index." ++ index_text f
fault_text (Shape f) = codes "Shape." ++ shape_text f
fault_text (Ufunc f) = codes "Ufunc." ++ ufunc_text f
fault_text (Reduce f) = codes "Reduce." ++ reduce_text f
fault_text (Stmt f) = codes "Stmt." ++ stmt_text f

abbrev pub parse_text : ParseKind → List ℕ
parse_text BadToken = codes "BadToken"
parse_text Unexpected = codes "Unexpected"
parse_text TooDeep = codes "TooDeep"
parse_text TooManyStatements = codes "TooManyStatements"
parse_text UnknownCall = codes "UnknownCall"
parse_text LeftOut = codes "LeftOut"

abbrev pub refusal_text : Refusal → List ℕ
refusal_text (Parse kind column) = codes "Parse." ++ parse_text kind ++ codes " " ++ decimal column
refusal_text (Statement f) = fault_text f

abbrev pub edit_fault_text : EditFault → List ℕ
edit_fault_text (book.NoCell at count) = codes "NoCell " ++ decimal at ++ codes " " ++ decimal count
edit_fault_text TooManyCells = codes "TooManyCells"
edit_fault_text CellTooLong = codes "CellTooLong"
edit_fault_text BadInputName = codes "BadInputName"
edit_fault_text InputTooLarge = codes "InputTooLarge"
edit_fault_text (NoInputNamed name) = codes "NoInputNamed " ++ name
edit_fault_text book.OutOfMemory = codes "OutOfMemory"

abbrev pub query_fault_text : QueryFault → List ℕ
query_fault_text (book.NoCell at count) = codes "NoCell " ++ decimal at ++ codes " " ++ decimal count
query_fault_text (book.NoName name) = codes "NoName " ++ name
query_fault_text (book.NoSave name) = codes "NoSave " ++ name
query_fault_text book.OutOfMemory = codes "OutOfMemory"
