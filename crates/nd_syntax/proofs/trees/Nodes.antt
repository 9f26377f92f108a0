-- What the nodes of a tree stand for that hold numbers in a row.
use Rattle.std.proofs.Common.{◌≡◌, ◌∷◌, Option, map, refl, ap, ◌∙◌, Vec, Global}
use Rattle.std.specs.Option.{option_map}
use mathlib.Core.Former.{Count}
use Rattle.nd_model.specs.Grammar.Syntax as model
use Rattle.nd_model.specs.Grammar.Cells.{exprs_of}
use Rattle.nd_syntax.specs.declared.trees.tree.Expr.{Expr}
use Rattle.nd_syntax.specs.declared.trees.tree.Call as call
use Rattle.nd_syntax.specs.declared.trees.tree.Call.{Call, Row_of-Expr, end_of-Expr, more_of-Expr, items-the_row-Expr}
use Rattle.nd_syntax.specs.declared.trees.tree.Method as method
use Rattle.nd_syntax.specs.declared.trees.tree.Method.{Method}
use Rattle.nd_syntax.specs.declared.trees.calls.Fill.{Fill}
use Rattle.nd_syntax.specs.declared.trees.calls.DType.{DType}
use Rattle.nd_syntax.specs.Trees.Calls.{fill_of, dtype_of}
use Rattle.nd_syntax.specs.Trees.Syntax.{expr_of, call_of, method_of, row_of_exprs}

numbers_are : (n : _) (row : Row_of-Expr n) → row_of_exprs row ≡ map expr_of (items-the_row-Expr n row)
numbers_are n end_of-Expr = refl
numbers_are n (more_of-Expr e es) = ap (λ l. expr_of e ∷ l) (numbers_are _ es)

abbrev pub call_row : Call → (n : Count) × Row_of-Expr n
call_row (call.Filled' f shape es t) = (_, es)
call_row (call.Full' shape es e t) = (_, es)
call_row (call.BroadcastTo' e shape es) = (_, es)
call_row _ = (_, end_of-Expr)

pub filled_is : (f : Fill) (es : Vec Expr Global) (t : Option DType) → call_of (call.Filled f es t) ≡ model.Filled (fill_of f) (exprs_of (map expr_of es.items)) (option_map dtype_of t)
filled_is f es t =
    let row = call_row (call.Filled f es t) in
    ap (λ l. model.Filled (fill_of f) (exprs_of l) (option_map dtype_of t)) (numbers_are row.0 row.1 ∙ ap (map expr_of) (call.items_hidden-the_row-Expr-0 es))

pub full_is : (es : Vec Expr Global) (e : Expr) (t : Option DType) → call_of (call.Full es e t) ≡ model.Full (exprs_of (map expr_of es.items)) (expr_of e) (option_map dtype_of t)
full_is es e t =
    let row = call_row (call.Full es e t) in
    ap (λ l. model.Full (exprs_of l) (expr_of e) (option_map dtype_of t)) (numbers_are row.0 row.1 ∙ ap (map expr_of) (call.items_hidden-the_row-Expr-0 es))

pub broadcast_is : (e : Expr) (es : Vec Expr Global) → call_of (call.BroadcastTo e es) ≡ model.BroadcastTo (expr_of e) (exprs_of (map expr_of es.items))
broadcast_is e es =
    let row = call_row (call.BroadcastTo e es) in
    ap (λ l. model.BroadcastTo (expr_of e) (exprs_of l)) (numbers_are row.0 row.1 ∙ ap (map expr_of) (call.items_hidden-the_row-Expr-0 es))

abbrev method_row : Method → (n : Count) × Row_of-Expr n
method_row (method.Transpose' shape es) = (_, es)
method_row (method.Reshape' shape es) = (_, es)
method_row _ = (_, end_of-Expr)

pub transpose_is : (es : Vec Expr Global) → method_of (method.Transpose es) ≡ model.Transpose (exprs_of (map expr_of es.items))
transpose_is es =
    let row = method_row (method.Transpose es) in
    ap (λ l. model.Transpose (exprs_of l)) (numbers_are row.0 row.1 ∙ ap (map expr_of) (call.items_hidden-the_row-Expr-0 es))

pub reshape_is : (es : Vec Expr Global) → method_of (method.Reshape es) ≡ model.Reshape (exprs_of (map expr_of es.items))
reshape_is es =
    let row = method_row (method.Reshape es) in
    ap (λ l. model.Reshape (exprs_of l)) (numbers_are row.0 row.1 ∙ ap (map expr_of) (call.items_hidden-the_row-Expr-0 es))
