-- An operand and what goes on it, one after the other.
use Rattle.std.proofs.Common.{◌≡◌, ℕ, ◌+◌, ◌≤◌, List, [], ◌∷◌, map, Option, None, Some, Result, Ok, Err, refl, sym, ap, ◌∙◌, arith, Box, Vec, Global}
use mathlib.Core.Former.{Count}
use Rattle.nd_model.specs.Cells.Fault.{Fault}
use Rattle.nd_model.specs.Grammar.Calls.{Ufunc}
use Rattle.nd_model.specs.Making.Reductions.{reduce_array, accumulate_array}
use Rattle.nd_model.specs.Grammar.Syntax.{Expr, Exprs, NoExpr, AndExpr, Item, Attribute, Called, Folded, Fold, Reduce, Accumulate, Index, Method, Copy, AsType, Transpose, Reshape, ViewAs, Reduced, Accumulated, DefaultAxis, AllAxes, AtAxis, Omitted, Given}
use Rattle.nd_model.specs.Grammar.Syntax as model
use Rattle.nd_model.specs.Grammar.Cells.{chained, Suffix, AtIndex, OfMethod, suffixed, exprs_of, items_of, elements_of}
use Rattle.nd_model.specs.Making.Creation.{copy_array, astype}
use Rattle.nd_model.specs.Grammar.Tokens.{tokens_of, tokens_of_all, tokens_of_exprs, tokens_of_method, tokens_of_shape}
use Rattle.nd_model.specs.Arrays.Value.{Value}
use Rattle.nd_model.specs.Cells.Running.{Running, Inputs}
use Rattle.nd_model.specs.Cells.Evaluation.{Eval, Gives, run, ◌>>=◌}
use Rattle.nd_model.specs.Making.Operand.{Unused}
use Rattle.nd_model.specs.Cells.Operation.{Views, perform, Done, with_values}
use Rattle.nd_model.specs.Indexing.Viewing.{Viewing, Transposed, Reshaped, ViewedAs}
use Rattle.nd_model.specs.Cells.Meaning.{along, value, expr_plans, index_plans, viewing_of}
use Rattle.nd_syntax.specs.declared.trees.tree.Expr as tree
use Rattle.nd_syntax.specs.declared.trees.tree.BinaryOp.{BinaryOp}
use Rattle.nd_syntax.specs.declared.trees.calls.DType.{DType}
use Rattle.nd_syntax.specs.declared.trees.tree.Call as call
use Rattle.nd_syntax.specs.declared.trees.tree.Element as element
use Rattle.nd_syntax.specs.declared.trees.calls.Fill.{Fill}
use Rattle.nd_syntax.specs.declared.trees.tree.Suffix as suffix
use Rattle.nd_syntax.specs.declared.trees.tree.Method as method
use Rattle.nd_syntax.specs.declared.trees.tree.Index as indexes
use Rattle.nd_syntax.specs.declared.trees.tree.IndexItem as item
use Rattle.nd_syntax.specs.declared.trees.tree.Fold as folds
use Rattle.nd_syntax.specs.declared.trees.tree.Axis as axis
use Rattle.nd_syntax.specs.declared.trees.calls.Accumulation.{Accumulation}
use Rattle.nd_syntax.specs.Trees.Calls.{accumulation_of}
use Rattle.nd_syntax.specs.Trees.Syntax.{expr_of, bound_of, element_of, fold_of, method_of, suffix_of, index_of, item_of}
use Rattle.nd_syntax.specs.Trees.Lists.{operation_of}
use Rattle.nd_syntax.proofs.trees.Nodes.{call_row}
use Rattle.nd_syntax.proofs.trees.Chains.{row_of, postfix_is, item_row, index_is, list_is, nested_is, chain_is}
use Rattle.nd_model.proofs.Steps.{goes_on, run_bind}
use Rattle.nd_eval.specs.Parts.{binary_value, choose_value, fold_call, index_parts, listed, make_value, method_value, suffix_value, viewed_value, view_value}
use Rattle.nd_eval.specs.Suffixes.{suffix_tokens}
use Rattle.nd_eval.proofs.Parts.{goes_same}
use Rattle.nd_eval.proofs.IndexPlans.{index_with}
use Rattle.nd_eval.proofs.Calls.{unused_first}

-- what goes on a value, one after the other
abbrev pub chain : Value → List Suffix → Eval Value
chain v [] = Gives v
chain v (x ∷ xs) = suffix_value x v >>= (λ w. chain w xs)

abbrev pub chain_tokens : List Suffix → ℕ
chain_tokens [] = 0
chain_tokens (x ∷ xs) = suffix_tokens x + chain_tokens xs

pub tokens_of_suffixed : (e : Expr) (xs : List Suffix) → tokens_of (suffixed e xs) ≡ tokens_of e + chain_tokens xs
tokens_of_suffixed e [] = omega arith
tokens_of_suffixed e (AtIndex x ∷ xs) = omega (arith, tokens_of_suffixed (Item e x) xs)
tokens_of_suffixed e (OfMethod m ∷ xs) = omega (arith, tokens_of_suffixed (Attribute e m) xs)

none_left : (i : Inputs) (m : Result Value Fault × Running) → m ≡ goes_on i m (λ v. chain v [])
none_left i (Ok v, r) = refl
none_left i (Err f, r) = refl

one_more : (i : Inputs) (x : Suffix) (xs : List Suffix) (m : Result Value Fault × Running)
    → goes_on i (goes_on i m (suffix_value x)) (λ v. chain v xs) ≡ goes_on i m (λ v. chain v (x ∷ xs))
one_more i x xs (Ok t, r) = sym (run_bind i (suffix_value x t) (λ v. chain v xs) r)
one_more i x xs (Err f, r) = refl

-- an index, and a method, on a value
run_item : (i : Inputs) (e : Expr) (x : Index) (r : Running) → run i (value (Item e x)) r ≡ goes_on i (run i (value e) r) (λ t. index_parts x >>= choose_value t)
run_item i e x r =
    run_bind i (value e) (λ t. with_values (index_plans x) (λ vs. perform (Views (viewing_of x)) ((Unused, t) ∷ vs))) r
    ∙ goes_same i (run i (value e) r) _ (λ t. index_parts x >>= choose_value t) (λ t s. index_with i x (λ w vs. perform (Views w) ((Unused, t) ∷ vs)) s)

-- expressions are those of their list
exprs_listed : (es : Exprs) → es ≡ exprs_of (listed es)
exprs_listed NoExpr = refl
exprs_listed (AndExpr e es) = ap (AndExpr e) (exprs_listed es)

run_viewed : (i : Inputs) (e : Expr) (w : Viewing) (es : Exprs) (r : Running)
    → run i (value e >>= λ v. with_values (expr_plans Unused es Done) (λ vs. perform (Views w) ((Unused, v) ∷ vs))) r ≡ goes_on i (run i (value e) r) (viewed_value w (listed es))
run_viewed i e w es r =
    run_bind i (value e) (λ v. with_values (expr_plans Unused es Done) (λ vs. perform (Views w) ((Unused, v) ∷ vs))) r
    ∙ goes_same i (run i (value e) r) _ (viewed_value w (listed es)) (λ v s.
    ap (λ es. run i (with_values (expr_plans Unused es Done) (λ vs. perform (Views w) ((Unused, v) ∷ vs))) s) (exprs_listed es) ∙ unused_first i (listed es) (Views w) (Unused, v) s)

run_attribute : (i : Inputs) (e : Expr) (a : Method) (r : Running) → run i (value (Attribute e a)) r ≡ goes_on i (run i (value e) r) (method_value a)
run_attribute i e Copy r = run_bind i (value e) (make_value copy_array) r
run_attribute i e (AsType t) r = run_bind i (value e) (make_value (astype t)) r
run_attribute i e (Transpose axes) r = run_viewed i e Transposed axes r
run_attribute i e (Reshape shape) r = run_viewed i e Reshaped shape r
run_attribute i e (ViewAs t) r = run_bind i (value e) (λ v. view_value (ViewedAs t) v []) r
run_attribute i e (Reduced f DefaultAxis keep) r = run_bind i (value e) (make_value (λ o. reduce_array f keep o None)) r
run_attribute i e (Reduced f AllAxes keep) r = run_bind i (value e) (make_value (λ o. reduce_array f keep o None)) r
run_attribute i e (Reduced f (AtAxis a) keep) r = run_bind i (value e) (λ v. binary_value (along (reduce_array f keep)) v a) r
run_attribute i e (Accumulated f Omitted) r = run_bind i (value e) (make_value (λ o. accumulate_array f o None)) r
run_attribute i e (Accumulated f (Given a)) r = run_bind i (value e) (λ v. binary_value (along (accumulate_array f)) v a) r

-- `np.add.reduce` and the like
pub fold_first : (i : Inputs) (f : Ufunc) (x : Fold) (r : Running) → run i (value (Called (Folded f x))) r ≡ run i (fold_call f x) r
fold_first i f (Reduce e DefaultAxis keep) r = refl
fold_first i f (Reduce e AllAxes keep) r = refl
fold_first i f (Reduce e (AtAxis a) keep) r = refl
fold_first i f (Accumulate e Omitted) r = refl
fold_first i f (Accumulate e (Given a)) r = refl

in_steps : (i : Inputs) (e : Expr) (xs : List Suffix) (r : Running) → run i (value (suffixed e xs)) r ≡ goes_on i (run i (value e) r) (λ v. chain v xs)
in_steps i e [] r = none_left i (run i (value e) r)
in_steps i e (AtIndex x ∷ xs) r = in_steps i (Item e x) xs r ∙ ap (λ m. goes_on i m (λ v. chain v xs)) (run_item i e x r) ∙ one_more i (AtIndex x) xs (run i (value e) r)
in_steps i e (OfMethod a ∷ xs) r =
    in_steps i (Attribute e a) xs r ∙ ap (λ m. goes_on i m (λ v. chain v xs)) (run_attribute i e a r) ∙ one_more i (OfMethod a) xs (run i (value e) r)

-- the operand first, and then what goes on it
pub run_suffixed : (i : Inputs) (e : Expr) (xs : List Suffix) (r : Running) → run i (value (suffixed e xs)) r ≡ run i (value e >>= (λ v. chain v xs)) r
run_suffixed i e xs r = in_steps i e xs r ∙ sym (run_bind i (value e) (λ v. chain v xs) r)

-- ---- one node of the code's tree

pub run_postfix : (i : Inputs) (x : tree.Expr) (e : Box tree.Expr Global) (xs : Vec suffix.Suffix Global) (r : Running) → x ≡ tree.Postfix e xs
    → run i (value (expr_of x)) r ≡ run i (value (expr_of e.value) >>= (λ v. chain v (map suffix_of xs.items))) r
run_postfix i x e xs r same =
    ap (λ y. run i (value (expr_of y)) r) same
    ∙ ap (λ y. run i (value y) r) (postfix_is e xs)
    ∙ run_suffixed i (expr_of e.value) (map suffix_of xs.items) r

pub tokens_of_postfix : (x : tree.Expr) (e : Box tree.Expr Global) (xs : Vec suffix.Suffix Global) → x ≡ tree.Postfix e xs
    → tokens_of (expr_of x) ≡ tokens_of (expr_of e.value) + chain_tokens (map suffix_of xs.items)
tokens_of_postfix x e xs same =
    ap (λ y. tokens_of (expr_of y)) same ∙ ap tokens_of (postfix_is e xs) ∙ tokens_of_suffixed (expr_of e.value) (map suffix_of xs.items)

-- how many nodes a tree has that are evaluated, which is the measure of its evaluation
abbrev mutual
  pub nodes : tree.Expr → ℕ
  nodes (tree.Name n) = 1
  nodes (tree.Integer n) = 1
  nodes (tree.Unary' op p e) = 2 + nodes e
  nodes (tree.Chain' p e shape xs) = 2 + nodes e + nodes_in_chain xs
  nodes (tree.Call' p c) = 1 + nodes_of_call c
  nodes (tree.Postfix' p e shape xs) = 1 + nodes e + nodes_in xs
  nodes e = 1

  pub nodes_in_chain : {n : _} → tree.Row_of-Expr-Chain-1-2 n → ℕ
  nodes_in_chain tree.end_of-Expr-Chain-1-2 = 0
  nodes_in_chain (tree.more_of-Expr-Chain-1-2 op x xs) = 2 + nodes x + nodes_in_chain xs

  pub nodes_of_call : call.Call → ℕ
  nodes_of_call (call.Arange' start e step t) = 4 + nodes_in_bound start + nodes e + nodes_in_bound step
  nodes_of_call (call.Minimum a b) = 3 + nodes a + nodes b
  nodes_of_call (call.Maximum a b) = 3 + nodes a + nodes b
  nodes_of_call (call.Absolute e) = 2 + nodes e
  nodes_of_call (call.Filled' f shape es t) = 3 + nodes_in_exprs es
  nodes_of_call (call.Full' shape es e t) = 3 + nodes_in_exprs es + nodes e
  nodes_of_call (call.Array x t) = 3 + nodes_of_element x
  nodes_of_call (call.Convert k e) = 2 + nodes e
  nodes_of_call (call.PythonAbs e) = 2 + nodes e
  nodes_of_call (call.BroadcastTo' e shape es) = 4 + nodes e + nodes_in_exprs es
  nodes_of_call (call.Fold f x) = 1 + nodes_of_fold x
  nodes_of_call c = 1

  pub nodes_in_bound : call.Held-Call-Arange-0 → ℕ
  nodes_in_bound call.None' = 0
  nodes_in_bound (call.Some' e) = 1 + nodes e

  pub nodes_in_exprs : {n : _} → call.Row_of-Expr n → ℕ
  nodes_in_exprs call.end_of-Expr = 0
  nodes_in_exprs (call.more_of-Expr e es) = 1 + nodes e + nodes_in_exprs es

  pub nodes_of_element : element.Element → ℕ
  nodes_of_element (element.Single e) = 2 + nodes e
  nodes_of_element (element.Nested' shape es) = 1 + nodes_in_elements es

  pub nodes_in_elements : {n : _} → item.Row_of-Element n → ℕ
  nodes_in_elements item.end_of-Element = 0
  nodes_in_elements (item.more_of-Element x xs) = 1 + nodes_of_element x + nodes_in_elements xs

  pub nodes_in : {n : _} → tree.Row_of-Suffix n → ℕ
  nodes_in tree.end_of-Suffix = 0
  nodes_in (tree.more_of-Suffix x xs) = nodes_of_suffix x + nodes_in xs

  pub nodes_of_suffix : suffix.Suffix → ℕ
  nodes_of_suffix (suffix.Index i) = 2 + nodes_of_index i
  nodes_of_suffix (suffix.Method m) = 1 + nodes_of_method m

  pub nodes_of_method : method.Method → ℕ
  nodes_of_method (method.Transpose' shape es) = 3 + nodes_in_exprs es
  nodes_of_method (method.Reshape' shape es) = 3 + nodes_in_exprs es
  nodes_of_method (method.Reduce f a keep) = 2 + nodes_of_axis a
  nodes_of_method (method.Accumulate' f a) = 3 + nodes_in_bound a
  nodes_of_method m = 1

  pub nodes_of_fold : folds.Fold → ℕ
  nodes_of_fold (folds.Reduce e a keep) = 2 + nodes e + nodes_of_axis a
  nodes_of_fold (folds.Accumulate' e a) = 3 + nodes e + nodes_in_bound a

  pub nodes_of_axis : axis.Axis → ℕ
  nodes_of_axis (axis.At e) = 1 + nodes e
  nodes_of_axis a = 0

  pub nodes_of_index : indexes.Index → ℕ
  nodes_of_index (indexes.Items' shape is) = 2 + nodes_in_items is
  nodes_of_index x = 1

  pub nodes_in_items : {n : _} → indexes.Row_of-IndexItem n → ℕ
  nodes_in_items indexes.end_of-IndexItem = 0
  nodes_in_items (indexes.more_of-IndexItem i is) = nodes_of_item i + nodes_in_items is

  pub nodes_of_item : item.IndexItem → ℕ
  nodes_of_item (item.At e) = 1 + nodes e
  nodes_of_item (item.Slice' a b c) = 3 + nodes_in_bound a + nodes_in_bound b + nodes_in_bound c
  nodes_of_item (item.List' shape es) = 3 + nodes_in_elements es
  nodes_of_item i = 1

abbrev pub nodes_of_all : List suffix.Suffix → ℕ
nodes_of_all [] = 0
nodes_of_all (x ∷ xs) = nodes_of_suffix x + nodes_of_all xs

nodes_in_row : (n : _) (row : tree.Row_of-Suffix n) → nodes_in row ≡ nodes_of_all (tree.items-the_row-Suffix n row)
nodes_in_row n tree.end_of-Suffix = refl
nodes_in_row n (tree.more_of-Suffix x xs) = ap (λ k. nodes_of_suffix x + k) (nodes_in_row _ xs)

pub nodes_of_postfix : (x : tree.Expr) (e : Box tree.Expr Global) (xs : Vec suffix.Suffix Global) → x ≡ tree.Postfix e xs → nodes x ≡ 1 + nodes e.value + nodes_of_all xs.items
nodes_of_postfix x e xs same =
    let row = row_of (tree.Postfix e xs) in
    ap nodes same ∙ ap (λ k. 1 + nodes e.value + k) (nodes_in_row row.0 row.1 ∙ ap nodes_of_all (tree.items_hidden-the_row-Suffix-3 xs))

-- the bounds of a range
abbrev pub nodes_of_bound : Option tree.Expr → ℕ
nodes_of_bound None = 0
nodes_of_bound (Some e) = 1 + nodes e

-- ---- accumulations, whose axis may be left out

pub accumulate_is : (e : tree.Expr) (a : Option tree.Expr) → fold_of (folds.Accumulate e a) ≡ Accumulate (expr_of e) (bound_of a)
accumulate_is e None = refl
accumulate_is e (Some x) = refl

pub accumulated_is : (f : Accumulation) (a : Option tree.Expr) → method_of (method.Accumulate f a) ≡ Accumulated (accumulation_of f) (bound_of a)
accumulated_is f None = refl
accumulated_is f (Some x) = refl

pub nodes_of_accumulate : (x : folds.Fold) (e : tree.Expr) (a : Option tree.Expr) → x ≡ folds.Accumulate e a → nodes_of_fold x ≡ 3 + nodes e + nodes_of_bound a
nodes_of_accumulate x e None same = ap nodes_of_fold same
nodes_of_accumulate x e (Some y) same = ap nodes_of_fold same

pub nodes_of_accumulated : (x : method.Method) (f : Accumulation) (a : Option tree.Expr) → x ≡ method.Accumulate f a → nodes_of_method x ≡ 3 + nodes_of_bound a
nodes_of_accumulated x f None same = ap nodes_of_method same
nodes_of_accumulated x f (Some y) same = ap nodes_of_method same

-- ---- the expressions of a call

more_tokens : (es : List Expr) → tokens_of_all es ≤ tokens_of_exprs (exprs_of es)
more_tokens [] = omega arith
more_tokens (e ∷ es) = omega (arith, more_tokens es)

-- lengths in brackets have as many tokens as lengths with commas, but for one
pub shape_tokens : (es : List Expr) → tokens_of_all es ≤ tokens_of_shape (exprs_of es) + 1
shape_tokens [] = omega arith
shape_tokens (e ∷ []) = omega arith
shape_tokens (e ∷ f ∷ es) = omega (arith, more_tokens es)

abbrev pub nodes_of_exprs : List tree.Expr → ℕ
nodes_of_exprs [] = 0
nodes_of_exprs (e ∷ es) = 1 + nodes e + nodes_of_exprs es

nodes_in_expr_row : (n : _) (row : call.Row_of-Expr n) → nodes_in_exprs row ≡ nodes_of_exprs (call.items-the_row-Expr n row)
nodes_in_expr_row n call.end_of-Expr = refl
nodes_in_expr_row n (call.more_of-Expr e es) = ap (λ k. 1 + nodes e + k) (nodes_in_expr_row _ es)

pub nodes_of_filled : (x : call.Call) (f : Fill) (es : Vec tree.Expr Global) (t : Option DType) → x ≡ call.Filled f es t → nodes_of_call x ≡ 3 + nodes_of_exprs es.items
nodes_of_filled x f es t same =
    let row = call_row (call.Filled f es t) in
    ap nodes_of_call same ∙ ap (λ k. 3 + k) (nodes_in_expr_row row.0 row.1 ∙ ap nodes_of_exprs (call.items_hidden-the_row-Expr-0 es))

pub nodes_of_full : (x : call.Call) (es : Vec tree.Expr Global) (e : tree.Expr) (t : Option DType) → x ≡ call.Full es e t → nodes_of_call x ≡ 3 + nodes_of_exprs es.items + nodes e
nodes_of_full x es e t same =
    let row = call_row (call.Full es e t) in
    ap nodes_of_call same ∙ ap (λ k. 3 + k + nodes e) (nodes_in_expr_row row.0 row.1 ∙ ap nodes_of_exprs (call.items_hidden-the_row-Expr-0 es))

pub nodes_of_stretched : (x : call.Call) (e : tree.Expr) (es : Vec tree.Expr Global) → x ≡ call.BroadcastTo e es → nodes_of_call x ≡ 4 + nodes e + nodes_of_exprs es.items
nodes_of_stretched x e es same =
    let row = call_row (call.BroadcastTo e es) in
    ap nodes_of_call same ∙ ap (λ k. 4 + nodes e + k) (nodes_in_expr_row row.0 row.1 ∙ ap nodes_of_exprs (call.items_hidden-the_row-Expr-0 es))

-- ---- and of a method

abbrev method_row : method.Method → (n : Count) × call.Row_of-Expr n
method_row (method.Transpose' shape es) = (_, es)
method_row (method.Reshape' shape es) = (_, es)
method_row _ = (_, call.end_of-Expr)

pub transposed_tokens : (es : List Expr) → tokens_of_all es ≤ tokens_of_method (Transpose (exprs_of es))
transposed_tokens [] = omega arith
transposed_tokens (e ∷ es) = omega (arith, more_tokens es)

pub reshaped_tokens : (es : List Expr) → tokens_of_all es ≤ tokens_of_method (Reshape (exprs_of es))
reshaped_tokens [] = omega arith
reshaped_tokens (e ∷ es) = omega (arith, more_tokens es)

pub nodes_of_transposed : (x : method.Method) (es : Vec tree.Expr Global) → x ≡ method.Transpose es → nodes_of_method x ≡ 3 + nodes_of_exprs es.items
nodes_of_transposed x es same =
    let row = method_row (method.Transpose es) in
    ap nodes_of_method same ∙ ap (λ k. 3 + k) (nodes_in_expr_row row.0 row.1 ∙ ap nodes_of_exprs (call.items_hidden-the_row-Expr-0 es))

pub nodes_of_reshaped : (x : method.Method) (es : Vec tree.Expr Global) → x ≡ method.Reshape es → nodes_of_method x ≡ 3 + nodes_of_exprs es.items
nodes_of_reshaped x es same =
    let row = method_row (method.Reshape es) in
    ap nodes_of_method same ∙ ap (λ k. 3 + k) (nodes_in_expr_row row.0 row.1 ∙ ap nodes_of_exprs (call.items_hidden-the_row-Expr-0 es))

-- the expressions are those of the code
pub listed_is : (es : List Expr) → listed (exprs_of es) ≡ es
listed_is [] = refl
listed_is (e ∷ es) = ap (λ l. e ∷ l) (listed_is es)

-- ---- the items of an index

abbrev pub nodes_of_items : List item.IndexItem → ℕ
nodes_of_items [] = 0
nodes_of_items (x ∷ xs) = nodes_of_item x + nodes_of_items xs

nodes_in_item_row : (n : _) (row : indexes.Row_of-IndexItem n) → nodes_in_items row ≡ nodes_of_items (indexes.items-the_row-IndexItem n row)
nodes_in_item_row n indexes.end_of-IndexItem = refl
nodes_in_item_row n (indexes.more_of-IndexItem i is) = ap (λ k. nodes_of_item i + k) (nodes_in_item_row _ is)

module _ (x : indexes.Index) (is : Vec item.IndexItem Global) (same : x ≡ indexes.Items is) where
  pub items_in_index : index_of x ≡ model.Items (items_of (map item_of is.items))
  items_in_index = ap index_of same ∙ index_is is

  pub nodes_of_its_items : nodes_of_index x ≡ 2 + nodes_of_items is.items
  nodes_of_its_items =
      let row = item_row (indexes.Items is) in
      ap nodes_of_index same ∙ ap (λ k. 2 + k) (nodes_in_item_row row.0 row.1 ∙ ap nodes_of_items (indexes.items_hidden-the_row-IndexItem-4 is))

-- ---- the elements of a list

abbrev pub nodes_of_elements : List element.Element → ℕ
nodes_of_elements [] = 0
nodes_of_elements (x ∷ xs) = 1 + nodes_of_element x + nodes_of_elements xs

nodes_in_element_row : (n : _) (row : item.Row_of-Element n) → nodes_in_elements row ≡ nodes_of_elements (item.items-the_row-Element n row)
nodes_in_element_row n item.end_of-Element = refl
nodes_in_element_row n (item.more_of-Element x xs) = ap (λ k. 1 + nodes_of_element x + k) (nodes_in_element_row _ xs)

abbrev list_row : element.Element → (n : Count) × item.Row_of-Element n
list_row (element.Nested' shape es) = (_, es)
list_row _ = (_, item.end_of-Element)

module _ (x : element.Element) (es : Vec element.Element Global) (same : x ≡ element.Nested es) where
  pub elements_in_list : element_of x ≡ model.Nested (elements_of (map element_of es.items))
  elements_in_list = ap element_of same ∙ nested_is es

  pub nodes_of_its_elements : nodes_of_element x ≡ 1 + nodes_of_elements es.items
  nodes_of_its_elements =
      let row = list_row (element.Nested es) in
      ap nodes_of_element same ∙ ap (λ k. 1 + k) (nodes_in_element_row row.0 row.1 ∙ ap nodes_of_elements (item.items_hidden-the_row-Element-1 es))

-- ---- a list as an item

abbrev list_item_row : item.IndexItem → (n : Count) × item.Row_of-Element n
list_item_row (item.List' shape es) = (_, es)
list_item_row _ = (_, item.end_of-Element)

module _ (x : item.IndexItem) (es : Vec element.Element Global) (same : x ≡ item.List es) where
  pub list_in_items : item_of x ≡ model.Listed (elements_of (map element_of es.items))
  list_in_items = ap item_of same ∙ list_is es

  pub nodes_of_list : nodes_of_item x ≡ 3 + nodes_of_elements es.items
  nodes_of_list =
      let row = list_item_row (item.List es) in
      ap nodes_of_item same ∙ ap (λ k. 3 + k) (nodes_in_element_row row.0 row.1 ∙ ap nodes_of_elements (item.items_hidden-the_row-Element-1 es))

-- a slice with its bounds
pub slice_is : (a b c : Option tree.Expr) → item_of (item.Slice a b c) ≡ model.Slice (bound_of a) (bound_of b) (bound_of c)
slice_is None None None = refl
slice_is None None (Some c) = refl
slice_is None (Some b) None = refl
slice_is None (Some b) (Some c) = refl
slice_is (Some a) None None = refl
slice_is (Some a) None (Some c) = refl
slice_is (Some a) (Some b) None = refl
slice_is (Some a) (Some b) (Some c) = refl

pub nodes_of_slice : (a b c : Option tree.Expr) → nodes_of_item (item.Slice a b c) ≡ 3 + nodes_of_bound a + nodes_of_bound b + nodes_of_bound c
nodes_of_slice None None None = refl
nodes_of_slice None None (Some c) = refl
nodes_of_slice None (Some b) None = refl
nodes_of_slice None (Some b) (Some c) = refl
nodes_of_slice (Some a) None None = refl
nodes_of_slice (Some a) None (Some c) = refl
nodes_of_slice (Some a) (Some b) None = refl
nodes_of_slice (Some a) (Some b) (Some c) = refl

-- ---- operators

abbrev pub nodes_of_operations : List (BinaryOp × tree.Expr) → ℕ
nodes_of_operations [] = 0
nodes_of_operations (x ∷ xs) = 2 + nodes x.1 + nodes_of_operations xs

nodes_in_operations : (n : _) (row : tree.Row_of-Expr-Chain-1-2 n) → nodes_in_chain row ≡ nodes_of_operations (tree.items-the_row-Expr-Chain-1-2 n row)
nodes_in_operations n tree.end_of-Expr-Chain-1-2 = refl
nodes_in_operations n (tree.more_of-Expr-Chain-1-2 op x xs) = ap (λ k. 2 + nodes x + k) (nodes_in_operations _ xs)

-- its operators, as the tree has them
abbrev chain_row : tree.Expr → (n : Count) × tree.Row_of-Expr-Chain-1-2 n
chain_row (tree.Chain' p e shape xs) = (_, xs)
chain_row _ = (_, tree.end_of-Expr-Chain-1-2)

module _ (x : tree.Expr) (e : Box tree.Expr Global) (xs : Vec (BinaryOp × tree.Expr) Global) (same : x ≡ tree.Chain e xs) where
  pub is_chain : expr_of x ≡ chained (expr_of e.value) (map operation_of xs.items)
  is_chain = ap expr_of same ∙ chain_is e xs

  pub nodes_of_chain : nodes x ≡ 2 + nodes e.value + nodes_of_operations xs.items
  nodes_of_chain =
      let row = chain_row (tree.Chain e xs) in
      ap nodes same ∙ ap (λ k. 2 + nodes e.value + k) (nodes_in_operations row.0 row.1 ∙ ap nodes_of_operations (tree.items_hidden-the_row-Expr-Chain-1-2-2 xs))
