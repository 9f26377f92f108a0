-- Refusals by their groups, each with its arguments.
use Rattle.std.specs.Prelude.{ℕ, ℤ, List}
use Rattle.nd_model.specs.Indexing.ShapeFault.{ShapeFault}
use Rattle.nd_model.specs.Formats.FormatFault.{FormatFault}
use Rattle.nd_model.specs.Formats.NpyFault.{NpyFault}
use Rattle.nd_model.specs.Making.ReduceFault.{ReduceFault}

pub data ViewFault : Type 0 where
  OutOfBlock : ViewFault
  TooManyAxes : ViewFault
  TooManyElements : ViewFault
  AxesDiffer : ViewFault
  ItemSizes : ViewFault

pub data IndexFault : Type 0 where
  OutOfBounds : (axis : ℕ) → (index : ℤ) → (size : ℕ) → IndexFault
  TooManyIndices : IndexFault
  ZeroStep : IndexFault
  NotAnIndex : IndexFault
  TwoEllipses : IndexFault
  NoField : (name : List ℕ) → IndexFault
  MaskShape : (axis : ℕ) → IndexFault
  IndexShapes : IndexFault

pub data UfuncFault : Type 0 where
  FloatResult : UfuncFault
  IntOutOfRange : ℤ → UfuncFault
  BoolOp : UfuncFault
  KindCast : UfuncFault
  NegativePower : UfuncFault
  ShapeMismatch : UfuncFault
  ReadOnly : UfuncFault
  NotNumbers : UfuncFault

pub data StmtFault : Type 0 where
  NoName : List ℕ → StmtFault
  NoInput : List ℕ → StmtFault
  IntTooBig : StmtFault
  ZeroDivide : StmtFault
  NegativeShift : StmtFault
  NeedsType : StmtFault
  RaggedList : StmtFault
  NotAnArray : StmtFault
  TextTooLong : StmtFault
  BadArgument : StmtFault
  BadType : StmtFault

-- why a statement is refused
pub data Fault : Type 0 where
  Format : FormatFault → Fault
  Npy : NpyFault → Fault
  View : ViewFault → Fault
  Index : IndexFault → Fault
  Shape : ShapeFault → Fault
  Ufunc : UfuncFault → Fault
  Reduce : ReduceFault → Fault
  Stmt : StmtFault → Fault

pub data ParseKind : Type 0 where
  BadToken : ParseKind
  Unexpected : ParseKind
  TooDeep : ParseKind
  TooManyStatements : ParseKind
  UnknownCall : ParseKind
  LeftOut : ParseKind

-- why a text is no cell, with the line and the column in bytes, both from 1
pub record ParseFault : Type 0 where
  pub kind : ParseKind
  pub line : ℕ
  pub column : ℕ

-- why a cell is refused
pub data Refusal : Type 0 where
  Parse : ParseKind → (column : ℕ) → Refusal
  Statement : Fault → Refusal
