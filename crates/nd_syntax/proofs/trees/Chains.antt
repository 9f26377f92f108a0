-- What the nodes of a tree stand for that hold other trees in a row.
use Rattle.std.proofs.Common.{◌≡◌, ◌∷◌, map, refl, ap, ◌∙◌, Box, Vec, Global}
use mathlib.Core.Former.{Count}
use Rattle.nd_model.specs.Grammar.Syntax as model
use Rattle.nd_model.specs.Grammar.Cells.{chained, suffixed, items_of, elements_of}
use Rattle.nd_syntax.specs.declared.trees.tree.Expr.{Expr, Postfix, Postfix', Row_of-Suffix, end_of-Suffix, more_of-Suffix, items-the_row-Suffix, items_hidden-the_row-Suffix-3, Chain, Chain', Row_of-Expr-Chain-1-2, end_of-Expr-Chain-1-2, more_of-Expr-Chain-1-2, items-the_row-Expr-Chain-1-2, items_hidden-the_row-Expr-Chain-1-2-2}
use Rattle.nd_syntax.specs.declared.trees.tree.Suffix as tree_suffix
use Rattle.nd_syntax.specs.declared.trees.tree.Index.{Index, Items, Items', Row_of-IndexItem, end_of-IndexItem, more_of-IndexItem, items-the_row-IndexItem, items_hidden-the_row-IndexItem-4}
use Rattle.nd_syntax.specs.declared.trees.tree.IndexItem as tree
use Rattle.nd_syntax.specs.declared.trees.tree.IndexItem.{IndexItem, Row_of-Element, end_of-Element, more_of-Element, items-the_row-Element, items_hidden-the_row-Element-1}
use Rattle.nd_syntax.specs.declared.trees.tree.Element as element
use Rattle.nd_syntax.specs.declared.trees.tree.Element.{Element}
use Rattle.nd_syntax.specs.declared.trees.tree.BinaryOp.{BinaryOp}
use Rattle.nd_syntax.specs.Trees.Syntax.{expr_of, operations_in, row_of_suffixes, suffix_of, index_of, row_of_items, item_of, row_of_elements, element_of}
use Rattle.nd_syntax.specs.Trees.Lists.{operation_of}

-- ---- suffixes

suffixes_are : (n : _) (row : Row_of-Suffix n) → row_of_suffixes row ≡ map suffix_of (items-the_row-Suffix n row)
suffixes_are n end_of-Suffix = refl
suffixes_are n (more_of-Suffix x xs) = ap (λ l. suffix_of x ∷ l) (suffixes_are _ xs)

-- the suffixes of an expression, as the tree has them
abbrev pub row_of : Expr → (n : Count) × Row_of-Suffix n
row_of (Postfix' p e shape xs) = (_, xs)
row_of _ = (_, end_of-Suffix)

pub postfix_is : (e : Box Expr Global) (xs : Vec tree_suffix.Suffix Global) → expr_of (Postfix e xs) ≡ suffixed (expr_of e.value) (map suffix_of xs.items)
postfix_is e xs =
    let row = row_of (Postfix e xs) in
    ap (suffixed (expr_of e.value)) (suffixes_are row.0 row.1 ∙ ap (map suffix_of) (items_hidden-the_row-Suffix-3 xs))

-- ---- items

items_are : (n : _) (row : Row_of-IndexItem n) → row_of_items row ≡ map item_of (items-the_row-IndexItem n row)
items_are n end_of-IndexItem = refl
items_are n (more_of-IndexItem i is) = ap (λ xs. item_of i ∷ xs) (items_are _ is)

abbrev pub item_row : Index → (n : Count) × Row_of-IndexItem n
item_row (Items' shape is) = (_, is)
item_row _ = (_, end_of-IndexItem)

pub index_is : (is : Vec IndexItem Global) → index_of (Items is) ≡ model.Items (items_of (map item_of is.items))
index_is is = let row = item_row (Items is) in ap (λ l. model.Items (items_of l)) (items_are row.0 row.1 ∙ ap (map item_of) (items_hidden-the_row-IndexItem-4 is))

-- ---- lists

elements_are : (n : _) (row : Row_of-Element n) → row_of_elements row ≡ map element_of (items-the_row-Element n row)
elements_are n end_of-Element = refl
elements_are n (more_of-Element e es) = ap (λ xs. element_of e ∷ xs) (elements_are _ es)

abbrev list_row : IndexItem → (n : Count) × Row_of-Element n
list_row (tree.List' shape es) = (_, es)
list_row _ = (_, end_of-Element)

pub list_is : (es : Vec Element Global) → item_of (tree.List es) ≡ model.Listed (elements_of (map element_of es.items))
list_is es = let row = list_row (tree.List es) in ap (λ l. model.Listed (elements_of l)) (elements_are row.0 row.1 ∙ ap (map element_of) (items_hidden-the_row-Element-1 es))

abbrev nested_row : Element → (n : Count) × Row_of-Element n
nested_row (element.Nested' shape es) = (_, es)
nested_row _ = (_, end_of-Element)

pub nested_is : (es : Vec Element Global) → element_of (element.Nested es) ≡ model.Nested (elements_of (map element_of es.items))
nested_is es = let row = nested_row (element.Nested es) in ap (λ l. model.Nested (elements_of l)) (elements_are row.0 row.1 ∙ ap (map element_of) (items_hidden-the_row-Element-1 es))

-- ---- operators

operations_are : (n : _) (row : Row_of-Expr-Chain-1-2 n) → operations_in row ≡ map operation_of (items-the_row-Expr-Chain-1-2 n row)
operations_are n end_of-Expr-Chain-1-2 = refl
operations_are n (more_of-Expr-Chain-1-2 op x xs) = ap (λ l. operation_of (op, x) ∷ l) (operations_are _ xs)

abbrev chain_row : Expr → (n : Count) × Row_of-Expr-Chain-1-2 n
chain_row (Chain' p e shape xs) = (_, xs)
chain_row _ = (_, end_of-Expr-Chain-1-2)

pub chain_is : (e : Box Expr Global) (xs : Vec (BinaryOp × Expr) Global) → expr_of (Chain e xs) ≡ chained (expr_of e.value) (map operation_of xs.items)
chain_is e xs =
    let row = chain_row (Chain e xs) in
    ap (chained (expr_of e.value)) (operations_are row.0 row.1 ∙ ap (map operation_of) (items_hidden-the_row-Expr-Chain-1-2-2 xs))
