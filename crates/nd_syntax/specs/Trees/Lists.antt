-- What rows of trees, and trees beside one another, stand for.
use Rattle.std.specs.Prelude.{Bool, List, map, Option, Vec}
use Rattle.std.specs.Option.{option_map}
use Rattle.std.specs.Global.{Global}
use Rattle.nd_model.specs.Grammar.Syntax as syntax
use Rattle.nd_model.specs.Grammar.Calls as model_calls
use Rattle.nd_model.specs.Grammar.Cells as cells
use Rattle.nd_syntax.specs.declared.trees.tree.BinaryOp.{BinaryOp}
use Rattle.nd_syntax.specs.declared.trees.tree.Expr.{Expr}
use Rattle.nd_syntax.specs.declared.trees.tree.Index.{Index}
use Rattle.nd_syntax.specs.declared.trees.tree.Suffix.{Suffix}
use Rattle.nd_syntax.specs.declared.trees.tree.Method.{Method}
use Rattle.nd_syntax.specs.declared.trees.tree.Axis.{Axis}
use Rattle.nd_syntax.specs.declared.trees.tree.IndexItem.{IndexItem}
use Rattle.nd_syntax.specs.declared.trees.tree.Element.{Element}
use Rattle.nd_syntax.specs.declared.trees.tree.Line.{Line}
use Rattle.nd_syntax.specs.declared.trees.calls.DType.{DType}
use Rattle.nd_syntax.specs.Trees.Calls.{dtype_of}
use Rattle.nd_syntax.specs.Trees.Syntax.{binary_op, expr_of, suffix_of, method_of, axis_of, index_of, item_of, bound_of, element_of, lines_of}

abbrev pub exprs_of : Vec Expr Global → List syntax.Expr
exprs_of es = map expr_of es.items

abbrev pub operation_of : BinaryOp × Expr → syntax.BinaryOp × syntax.Expr
operation_of x = (binary_op x.0, expr_of x.1)

abbrev pub operations_of : Vec (BinaryOp × Expr) Global → List (syntax.BinaryOp × syntax.Expr)
operations_of xs = map operation_of xs.items

-- what is assigned, and how
abbrev pub value_of : Option BinaryOp × Expr → Option syntax.BinaryOp × syntax.Expr
value_of v = (option_map binary_op v.0, expr_of v.1)

abbrev pub suffixes_of : Vec Suffix Global → List cells.Suffix
suffixes_of xs = map suffix_of xs.items

abbrev pub methods_of : Vec Method Global → List syntax.Method
methods_of ms = map method_of ms.items

abbrev pub items_in : Vec IndexItem Global → List syntax.IndexItem
items_in is = map item_of is.items

abbrev pub list_of_elements : Vec Element Global → List syntax.Element
list_of_elements es = map element_of es.items

abbrev pub elements_in : Vec Element Global → syntax.Elements
elements_in es = cells.elements_of (list_of_elements es)

-- the stop and the step of a slice
abbrev pub bounds_of : Option Expr × Option Expr → syntax.Bound × syntax.Bound
bounds_of b = (bound_of b.0, bound_of b.1)

-- two expressions
abbrev pub two_of : Expr × Expr → syntax.Expr × syntax.Expr
two_of x = (expr_of x.0, expr_of x.1)

abbrev pub typing_of : Option DType → Option model_calls.DType
typing_of t = option_map dtype_of t

-- lengths, and a type
abbrev pub filled_of : Vec Expr Global × Option DType → List syntax.Expr × Option model_calls.DType
filled_of x = (exprs_of x.0, typing_of x.1)

-- a value, and a type
abbrev pub typed_of : Expr × Option DType → syntax.Expr × Option model_calls.DType
typed_of x = (expr_of x.0, typing_of x.1)

-- what stands behind a second number, and behind a first one
abbrev pub third_of : Option Expr × Option DType → Option syntax.Expr × Option model_calls.DType
third_of x = (option_map expr_of x.0, typing_of x.1)

abbrev pub both_of : Expr × Option Expr → syntax.Expr × Option syntax.Expr
both_of x = (expr_of x.0, option_map expr_of x.1)

abbrev pub second_of : Option (Expr × Option Expr) × Option DType → Option (syntax.Expr × Option syntax.Expr) × Option model_calls.DType
second_of x = (option_map both_of x.0, typing_of x.1)

-- an axis, and whether it is kept
abbrev pub options_of : Axis × Bool → syntax.Axis × Bool
options_of x = (axis_of x.0, x.1)

-- methods, and an index
abbrev pub group_of : Vec Method Global × Index → List syntax.Method × syntax.Index
group_of g = (methods_of g.0, index_of g.1)

-- what goes on an operand before the last index, and that
abbrev pub trailing_of : Vec Suffix Global × Index → List cells.Suffix × syntax.Index
trailing_of c = (suffixes_of c.0, index_of c.1)

-- what is assigned to, and its index
abbrev pub target_of : Expr × Index → syntax.Expr × syntax.Index
target_of t = (expr_of t.0, index_of t.1)

abbrev pub list_of : Vec Line Global → List syntax.Line
list_of ls = lines_of ls.items
