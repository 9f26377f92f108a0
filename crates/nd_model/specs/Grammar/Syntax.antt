-- What a cell's text means, without parentheses, blanks and spellings.
use Rattle.std.specs.Prelude.{ℕ, Bool, List, Option, Result}
use Rattle.nd_model.specs.Arrays.Element.{Kind}
use Rattle.nd_model.specs.Grammar.Calls.{Ufunc, Reduction, Accumulation, Fill, DType}
use Rattle.nd_model.specs.Cells.Fault.{ParseFault}

-- the operators, by NumPy's names
pub data UnaryOp : Type 0 where
  Negative : UnaryOp
  Invert : UnaryOp

pub data BinaryOp : Type 0 where
  Add : BinaryOp
  Subtract : BinaryOp
  Multiply : BinaryOp
  FloorDivide : BinaryOp
  Divide : BinaryOp
  Remainder : BinaryOp
  Power : BinaryOp
  LeftShift : BinaryOp
  RightShift : BinaryOp
  BitwiseAnd : BinaryOp
  BitwiseXor : BinaryOp
  BitwiseOr : BinaryOp
  Less : BinaryOp
  LessEqual : BinaryOp
  Greater : BinaryOp
  GreaterEqual : BinaryOp
  Equal : BinaryOp
  NotEqual : BinaryOp

mutual
  pub data Expr : Type 0 where
    Name : List ℕ → Expr
    Integer : ℕ → Expr
    Truth : Bool → Expr
    Unary : UnaryOp → Expr → Expr
    Binary : BinaryOp → Expr → Expr → Expr
    Called : Call → Expr
    -- an operand and its index
    Item : Expr → Index → Expr
    -- an operand and its method
    Attribute : Expr → Method → Expr

  -- a call of a function, by NumPy's name where it has one
  pub data Call : Type 0 where
    Arange : (start : Bound) → (stop : Expr) → (step : Bound) → Option DType → Call
    -- `np.zeros`, `np.ones`
    Filled : Fill → (shape : Exprs) → Option DType → Call
    Full : (shape : Exprs) → Expr → Option DType → Call
    -- `np.array`
    NewArray : Element → Option DType → Call
    -- `np.int8` and the like
    Convert : Kind → Expr → Call
    BroadcastTo : Expr → (shape : Exprs) → Call
    Minimum : Expr → Expr → Call
    Maximum : Expr → Expr → Call
    -- `np.abs`, `np.absolute`
    Absolute : Expr → Call
    -- `abs`
    PythonAbs : Expr → Call
    -- `np.add.reduce` and the like
    Folded : Ufunc → Fold → Call
    Load : List ℕ → Call
    Buffer : List ℕ → Call

  pub data Fold : Type 0 where
    Reduce : Expr → Axis → (keepdims : Bool) → Fold
    Accumulate : Expr → (axis : Bound) → Fold

  -- a method of an array, or an attribute
  pub data Method : Type 0 where
    -- `.T` has no axes
    Transpose : (axes : Exprs) → Method
    Reshape : (shape : Exprs) → Method
    Copy : Method
    AsType : DType → Method
    ViewAs : DType → Method
    -- `.sum` and the like
    Reduced : Reduction → Axis → (keepdims : Bool) → Method
    -- `.cumsum`, `.cumprod`
    Accumulated : Accumulation → (axis : Bound) → Method

  -- the axis of a reduction: none is written, `None`, or a number
  pub data Axis : Type 0 where
    DefaultAxis : Axis
    AllAxes : Axis
    AtAxis : Expr → Axis

  pub data Exprs : Type 0 where
    NoExpr : Exprs
    AndExpr : Expr → Exprs → Exprs

  -- what stands in brackets: the name of a field, or items, none in `()`
  pub data Index : Type 0 where
    Field : List ℕ → Index
    Items : IndexItems → Index

  pub data IndexItems : Type 0 where
    NoItem : IndexItems
    AndItem : IndexItem → IndexItems → IndexItems

  pub data IndexItem : Type 0 where
    At : Expr → IndexItem
    Slice : (start stop step : Bound) → IndexItem
    Ellipsis : IndexItem
    NewAxis : IndexItem
    Listed : Elements → IndexItem

  pub data Bound : Type 0 where
    Omitted : Bound
    Given : Expr → Bound

  -- the elements of a list, of which each may be a list
  pub data Elements : Type 0 where
    NoElement : Elements
    AndElement : Element → Elements → Elements

  pub data Element : Type 0 where
    Single : Expr → Element
    Nested : Elements → Element

pub data Stmt : Type 0 where
  Import : Stmt
  Bind : List ℕ → Expr → Stmt
  -- a name, the operator of `op=`, and the operand
  Augment : List ℕ → BinaryOp → Expr → Stmt
  -- the target, its index, and the value
  Assign : Expr → Index → Expr → Stmt
  -- the target, its index, the operator, and the operand
  AugmentItem : Expr → Index → BinaryOp → Expr → Stmt
  Delete : List ℕ → Stmt
  Print : List Expr → Stmt
  -- `np.save`: the name, and the value
  Save : List ℕ → Expr → Stmt

-- a statement, and the line, from 1, on which it begins
pub record Line : Type 0 where
  pub line : ℕ
  pub stmt : Stmt

-- a cell's statements, or its fault
abbrev pub Parsed : Type 0
Parsed = Result (List Line) ParseFault
