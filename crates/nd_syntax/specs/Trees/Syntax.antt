-- What the trees of the program stand for.
use Rattle.std.specs.Prelude.{List, [], ◌∷◌, map, Option, None, Some, Result, Ok, Err, string_bytes, Vec}
use Rattle.std.specs.Option.{option_map}
use Rattle.std.specs.Global.{Global}
use Rattle.nd_types.specs.Kinds as types
use Rattle.nd_syntax.specs.Trees.Calls.{ufunc_of, reduction_of, accumulation_of, fill_of, dtype_of}
use Rattle.nd_model.specs.Grammar.Syntax as model
use Rattle.nd_model.specs.Cells.Fault as fault
use Rattle.nd_model.specs.Grammar.Cells.{chained, AtIndex, OfMethod, suffixed, exprs_of, items_of, elements_of}
use Rattle.nd_model.specs.Grammar.Cells as cells
use Rattle.nd_syntax.specs.declared.trees.tree.Expr as declared
use Rattle.nd_syntax.specs.declared.trees.tree.Call as call
use Rattle.nd_syntax.specs.declared.trees.tree.Fold as fold
use Rattle.nd_syntax.specs.declared.trees.tree.Suffix as suffix
use Rattle.nd_syntax.specs.declared.trees.tree.Method as method
use Rattle.nd_syntax.specs.declared.trees.tree.Axis as axis
use Rattle.nd_syntax.specs.declared.trees.tree.Index as index
use Rattle.nd_syntax.specs.declared.trees.tree.IndexItem as item
use Rattle.nd_syntax.specs.declared.trees.tree.Element as element
use Rattle.nd_syntax.specs.declared.trees.tree.UnaryOp.{UnaryOp}
use Rattle.nd_syntax.specs.declared.trees.tree.UnaryOp.TheVariants as unary
use Rattle.nd_syntax.specs.declared.trees.tree.BinaryOp.{BinaryOp}
use Rattle.nd_syntax.specs.declared.trees.tree.BinaryOp.TheVariants as binary
use Rattle.nd_syntax.specs.declared.trees.tree.Stmt.{Stmt}
use Rattle.nd_syntax.specs.declared.trees.tree.Stmt.TheVariants as stmts
use Rattle.nd_syntax.specs.declared.trees.tree.Line.{Line}
use Rattle.nd_syntax.specs.declared.trees.tree.ParseKind.{ParseKind}
use Rattle.nd_syntax.specs.declared.trees.tree.ParseKind.TheVariants as kinds
use Rattle.nd_syntax.specs.declared.trees.tree.ParseFault.{ParseFault}

abbrev pub unary_op : UnaryOp → model.UnaryOp
unary_op unary.Negative = model.Negative
unary_op unary.Invert = model.Invert

abbrev pub binary_op : BinaryOp → model.BinaryOp
binary_op binary.Add = model.Add
binary_op binary.Subtract = model.Subtract
binary_op binary.Multiply = model.Multiply
binary_op binary.FloorDivide = model.FloorDivide
binary_op binary.Divide = model.Divide
binary_op binary.Remainder = model.Remainder
binary_op binary.Power = model.Power
binary_op binary.LeftShift = model.LeftShift
binary_op binary.RightShift = model.RightShift
binary_op binary.BitwiseAnd = model.BitwiseAnd
binary_op binary.BitwiseXor = model.BitwiseXor
binary_op binary.BitwiseOr = model.BitwiseOr
binary_op binary.Less = model.Less
binary_op binary.LessEqual = model.LessEqual
binary_op binary.Greater = model.Greater
binary_op binary.GreaterEqual = model.GreaterEqual
binary_op binary.Equal = model.Equal
binary_op binary.NotEqual = model.NotEqual

abbrev mutual
  pub expr_of : declared.Expr → model.Expr
  expr_of (declared.Name n) = model.Name (string_bytes n)
  expr_of (declared.Integer n) = model.Integer n
  expr_of (declared.Truth t) = model.Truth t
  expr_of (declared.Unary' op p e) = model.Unary (unary_op op) (expr_of e)
  expr_of (declared.Chain' p e shape xs) = chained (expr_of e) (operations_in xs)
  expr_of (declared.Call' p c) = model.Called (call_of c)
  expr_of (declared.Postfix' p e shape xs) = suffixed (expr_of e) (row_of_suffixes xs)

  -- the operators of a chain with their right operands
  pub operations_in : {n : _} → declared.Row_of-Expr-Chain-1-2 n → List (model.BinaryOp × model.Expr)
  operations_in declared.end_of-Expr-Chain-1-2 = []
  operations_in (declared.more_of-Expr-Chain-1-2 op x xs) = (binary_op op, expr_of x) ∷ operations_in xs

  pub call_of : call.Call → model.Call
  call_of (call.Arange' a e c t) = model.Arange (held_bound a) (expr_of e) (held_bound c) (option_map dtype_of t)
  call_of (call.Filled' f shape es t) = model.Filled (fill_of f) (exprs_of (row_of_exprs es)) (option_map dtype_of t)
  call_of (call.Full' shape es e t) = model.Full (exprs_of (row_of_exprs es)) (expr_of e) (option_map dtype_of t)
  call_of (call.Array x t) = model.NewArray (element_of x) (option_map dtype_of t)
  call_of (call.Convert k e) = model.Convert (types.kind_of k) (expr_of e)
  call_of (call.BroadcastTo' e shape es) = model.BroadcastTo (expr_of e) (exprs_of (row_of_exprs es))
  call_of (call.Minimum a b) = model.Minimum (expr_of a) (expr_of b)
  call_of (call.Maximum a b) = model.Maximum (expr_of a) (expr_of b)
  call_of (call.Absolute e) = model.Absolute (expr_of e)
  call_of (call.PythonAbs e) = model.PythonAbs (expr_of e)
  call_of (call.Fold u f) = model.Folded (ufunc_of u) (fold_of f)
  call_of (call.Load n) = model.Load (string_bytes n)
  call_of (call.Buffer n) = model.Buffer (string_bytes n)

  pub held_bound : call.Held-Call-Arange-0 → model.Bound
  held_bound call.None' = model.Omitted
  held_bound (call.Some' e) = model.Given (expr_of e)

  pub fold_of : fold.Fold → model.Fold
  fold_of (fold.Reduce e a k) = model.Reduce (expr_of e) (axis_of a) k
  fold_of (fold.Accumulate' e a) = model.Accumulate (expr_of e) (held_bound a)

  -- what goes on an operand, from left to right
  pub row_of_suffixes : {n : _} → declared.Row_of-Suffix n → List cells.Suffix
  row_of_suffixes declared.end_of-Suffix = []
  row_of_suffixes (declared.more_of-Suffix x xs) = suffix_of x ∷ row_of_suffixes xs

  pub suffix_of : suffix.Suffix → cells.Suffix
  suffix_of (suffix.Index i) = AtIndex (index_of i)
  suffix_of (suffix.Method m) = OfMethod (method_of m)

  pub method_of : method.Method → model.Method
  method_of (method.Transpose' shape es) = model.Transpose (exprs_of (row_of_exprs es))
  method_of (method.Reshape' shape es) = model.Reshape (exprs_of (row_of_exprs es))
  method_of method.Copy = model.Copy
  method_of (method.AsType t) = model.AsType (dtype_of t)
  method_of (method.View t) = model.ViewAs (dtype_of t)
  method_of (method.Reduce r a k) = model.Reduced (reduction_of r) (axis_of a) k
  method_of (method.Accumulate' r a) = model.Accumulated (accumulation_of r) (held_bound a)

  pub axis_of : axis.Axis → model.Axis
  axis_of axis.Default = model.DefaultAxis
  axis_of axis.All = model.AllAxes
  axis_of (axis.At e) = model.AtAxis (expr_of e)

  pub row_of_exprs : {n : _} → call.Row_of-Expr n → List model.Expr
  row_of_exprs call.end_of-Expr = []
  row_of_exprs (call.more_of-Expr e es) = expr_of e ∷ row_of_exprs es

  pub index_of : index.Index → model.Index
  index_of (index.Field n) = model.Field (string_bytes n)
  index_of (index.Items' shape is) = model.Items (items_of (row_of_items is))

  pub row_of_items : {n : _} → index.Row_of-IndexItem n → List model.IndexItem
  row_of_items index.end_of-IndexItem = []
  row_of_items (index.more_of-IndexItem i is) = item_of i ∷ row_of_items is

  pub item_of : item.IndexItem → model.IndexItem
  item_of (item.At e) = model.At (expr_of e)
  item_of (item.Slice' a b c) = model.Slice (held_bound a) (held_bound b) (held_bound c)
  item_of item.Ellipsis = model.Ellipsis
  item_of item.NewAxis = model.NewAxis
  item_of (item.List' shape es) = model.Listed (elements_of (row_of_elements es))

  pub row_of_elements : {n : _} → item.Row_of-Element n → List model.Element
  row_of_elements item.end_of-Element = []
  row_of_elements (item.more_of-Element e es) = element_of e ∷ row_of_elements es

  pub element_of : element.Element → model.Element
  element_of (element.Single e) = model.Single (expr_of e)
  element_of (element.Nested' shape es) = model.Nested (elements_of (row_of_elements es))

abbrev pub bound_of : Option declared.Expr → model.Bound
bound_of None = model.Omitted
bound_of (Some e) = model.Given (expr_of e)

abbrev pub stmt_of : Stmt → model.Stmt
stmt_of stmts.Import = model.Import
stmt_of (stmts.Bind n e) = model.Bind (string_bytes n) (expr_of e)
stmt_of (stmts.Augment n op e) = model.Augment (string_bytes n) (binary_op op) (expr_of e)
stmt_of (stmts.Assign t i e) = model.Assign (expr_of t) (index_of i) (expr_of e)
stmt_of (stmts.AugmentItem t i op e) = model.AugmentItem (expr_of t) (index_of i) (binary_op op) (expr_of e)
stmt_of (stmts.Delete n) = model.Delete (string_bytes n)
stmt_of (stmts.Print es) = model.Print (map expr_of es.items)
stmt_of (stmts.Save n e) = model.Save (string_bytes n) (expr_of e)

abbrev pub line_of : Line → model.Line
line_of l = record { line = l.line; stmt = stmt_of l.stmt }

abbrev pub lines_of : List Line → List model.Line
lines_of ls = map line_of ls

abbrev pub kind_of : ParseKind → fault.ParseKind
kind_of kinds.BadToken = fault.BadToken
kind_of kinds.Unexpected = fault.Unexpected
kind_of kinds.TooDeep = fault.TooDeep
kind_of kinds.TooManyStatements = fault.TooManyStatements
kind_of kinds.UnknownCall = fault.UnknownCall
kind_of kinds.LeftOut = fault.LeftOut

abbrev pub fault_of : ParseFault → fault.ParseFault
fault_of f = record { kind = kind_of f.kind; line = f.line; column = f.column }

-- what a parser returns
abbrev pub parsed_of : Result (Vec Line Global) ParseFault → model.Parsed
parsed_of (Ok ls) = Ok (lines_of ls.items)
parsed_of (Err f) = Err (fault_of f)
