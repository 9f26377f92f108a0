-- How many tokens a statement has at least: those of its shortest text, without the parentheses that it may need. An
-- evaluation makes at most one base for each.
use Rattle.std.specs.Prelude.{ℕ, ◌+◌, Bool, true, false, List, [], ◌∷◌, Option, Some, None}
use Rattle.nd_model.specs.Grammar.Calls.{TypeName, KindName, TypeText, FieldType, DType, Simple, Packed}
use Rattle.nd_model.specs.Grammar.Syntax.{Expr, Name, Integer, Truth, Unary, Binary, Called, Item, Attribute, Call, Arange, Filled, Full, NewArray, Convert, BroadcastTo, Minimum, Maximum, Absolute, PythonAbs, Folded, Load, Buffer, Fold, Reduce, Accumulate, Method, Transpose, Reshape, Copy, AsType, ViewAs, Reduced, Accumulated, Axis, DefaultAxis, AllAxes, AtAxis, Exprs, NoExpr, AndExpr, Index, Field, Items, IndexItems, NoItem, AndItem, IndexItem, At, Slice, Ellipsis, NewAxis, Listed, Bound, Omitted, Given, Elements, NoElement, AndElement, Element, Single, Nested, Stmt, Import, Bind, Augment, Assign, AugmentItem, Delete, Print, Save, Line}

-- ---- types

abbrev pub tokens_of_type : TypeName → ℕ
tokens_of_type (KindName k) = 3
tokens_of_type (TypeText t) = 1

-- each with the comma before it
abbrev pub tokens_of_fields : List FieldType → ℕ
tokens_of_fields [] = 0
tokens_of_fields (f ∷ fs) = 5 + tokens_of_type f.type_name + tokens_of_fields fs

abbrev pub tokens_of_dtype : DType → ℕ
tokens_of_dtype (Simple t) = tokens_of_type t
tokens_of_dtype (Packed fs) = 1 + tokens_of_fields fs

-- `, dtype = ..`
abbrev pub tokens_of_typing : Option DType → ℕ
tokens_of_typing None = 0
tokens_of_typing (Some t) = 3 + tokens_of_dtype t

-- `, keepdims = True`, where something stands before it
abbrev pub tokens_of_keepdims : Bool → ℕ
tokens_of_keepdims true = 4
tokens_of_keepdims false = 0

-- ---- expressions

abbrev mutual
  pub tokens_of : Expr → ℕ
  tokens_of (Name n) = 1
  tokens_of (Integer n) = 1
  tokens_of (Truth t) = 1
  tokens_of (Unary op e) = 1 + tokens_of e
  tokens_of (Binary op a b) = 1 + tokens_of a + tokens_of b
  tokens_of (Called c) = tokens_of_call c
  tokens_of (Item t x) = 2 + tokens_of t + tokens_of_index x
  tokens_of (Attribute t m) = 2 + tokens_of t + tokens_of_method m

  pub tokens_of_call : Call → ℕ
  tokens_of_call (Arange start stop step t) = 5 + tokens_of_step start + tokens_of stop + tokens_of_step step + tokens_of_typing t
  tokens_of_call (Filled f s t) = 5 + tokens_of_shape s + tokens_of_typing t
  tokens_of_call (Full s e t) = 6 + tokens_of_shape s + tokens_of e + tokens_of_typing t
  tokens_of_call (NewArray x t) = 5 + tokens_of_element x + tokens_of_typing t
  tokens_of_call (Convert k e) = 5 + tokens_of e
  tokens_of_call (BroadcastTo e s) = 6 + tokens_of e + tokens_of_shape s
  tokens_of_call (Minimum a b) = 6 + tokens_of a + tokens_of b
  tokens_of_call (Maximum a b) = 6 + tokens_of a + tokens_of b
  tokens_of_call (Absolute e) = 5 + tokens_of e
  tokens_of_call (PythonAbs e) = 3 + tokens_of e
  tokens_of_call (Folded u f) = 4 + tokens_of_fold f
  tokens_of_call (Load n) = 6
  tokens_of_call (Buffer n) = 4

  pub tokens_of_fold : Fold → ℕ
  tokens_of_fold (Reduce e a k) = 3 + tokens_of e + tokens_of_axis a + tokens_of_keepdims k
  tokens_of_fold (Accumulate e a) = 3 + tokens_of e + tokens_of_number a

  -- `, axis = ..`
  pub tokens_of_axis : Axis → ℕ
  tokens_of_axis DefaultAxis = 0
  tokens_of_axis AllAxes = 4
  tokens_of_axis (AtAxis e) = 3 + tokens_of e

  -- `, axis = ..`, where it may not be `None`
  pub tokens_of_number : Bound → ℕ
  tokens_of_number Omitted = 0
  tokens_of_number (Given e) = 3 + tokens_of e

  -- behind the dot
  pub tokens_of_method : Method → ℕ
  tokens_of_method (Transpose NoExpr) = 0
  tokens_of_method (Transpose (AndExpr e es)) = 2 + tokens_of e + tokens_of_exprs es
  tokens_of_method (Reshape s) = 2 + tokens_of_lengths s
  tokens_of_method Copy = 2
  tokens_of_method (AsType t) = 2 + tokens_of_dtype t
  tokens_of_method (ViewAs t) = 2 + tokens_of_dtype t
  tokens_of_method (Reduced r a k) = 2 + tokens_of_first a k
  tokens_of_method (Accumulated r Omitted) = 2
  tokens_of_method (Accumulated r (Given e)) = 4 + tokens_of e

  -- what stands in the brackets of a reduction
  pub tokens_of_first : Axis → Bool → ℕ
  tokens_of_first DefaultAxis true = 3
  tokens_of_first DefaultAxis false = 0
  tokens_of_first AllAxes k = 1 + tokens_of_keepdims k
  tokens_of_first (AtAxis e) k = tokens_of e + tokens_of_keepdims k

  -- one length needs no brackets
  pub tokens_of_shape : Exprs → ℕ
  tokens_of_shape NoExpr = 2
  tokens_of_shape (AndExpr e NoExpr) = tokens_of e
  tokens_of_shape (AndExpr e (AndExpr f es)) = 3 + tokens_of e + tokens_of f + tokens_of_exprs es

  -- neither do several behind `reshape`
  pub tokens_of_lengths : Exprs → ℕ
  tokens_of_lengths NoExpr = 2
  tokens_of_lengths (AndExpr e es) = tokens_of e + tokens_of_exprs es

  -- each with the comma before it
  pub tokens_of_exprs : Exprs → ℕ
  tokens_of_exprs NoExpr = 0
  tokens_of_exprs (AndExpr e es) = 1 + tokens_of e + tokens_of_exprs es

  pub tokens_of_index : Index → ℕ
  tokens_of_index (Field n) = 1
  tokens_of_index (Items NoItem) = 2
  tokens_of_index (Items (AndItem i is)) = tokens_of_item i + tokens_of_items is

  -- each with the comma before it
  pub tokens_of_items : IndexItems → ℕ
  tokens_of_items NoItem = 0
  tokens_of_items (AndItem i is) = 1 + tokens_of_item i + tokens_of_items is

  pub tokens_of_item : IndexItem → ℕ
  tokens_of_item (At e) = tokens_of e
  tokens_of_item (Slice start stop step) = 1 + tokens_of_bound start + tokens_of_bound stop + tokens_of_step step
  tokens_of_item Ellipsis = 1
  tokens_of_item NewAxis = 1
  tokens_of_item (Listed es) = 2 + tokens_of_elements es

  pub tokens_of_bound : Bound → ℕ
  tokens_of_bound Omitted = 0
  tokens_of_bound (Given e) = tokens_of e

  -- with the colon before it
  pub tokens_of_step : Bound → ℕ
  tokens_of_step Omitted = 0
  tokens_of_step (Given e) = 1 + tokens_of e

  pub tokens_of_elements : Elements → ℕ
  tokens_of_elements NoElement = 0
  tokens_of_elements (AndElement e es) = tokens_of_element e + tokens_of_others es

  -- each with the comma before it
  pub tokens_of_others : Elements → ℕ
  tokens_of_others NoElement = 0
  tokens_of_others (AndElement e es) = 1 + tokens_of_element e + tokens_of_others es

  pub tokens_of_element : Element → ℕ
  tokens_of_element (Single e) = tokens_of e
  tokens_of_element (Nested es) = 2 + tokens_of_elements es

abbrev pub tokens_of_all : List Expr → ℕ
tokens_of_all [] = 0
tokens_of_all (e ∷ es) = 1 + tokens_of e + tokens_of_all es

abbrev pub tokens_of_stmt : Stmt → ℕ
tokens_of_stmt Import = 4
tokens_of_stmt (Bind n e) = 2 + tokens_of e
tokens_of_stmt (Augment n op e) = 2 + tokens_of e
tokens_of_stmt (Assign t x e) = 3 + tokens_of t + tokens_of_index x + tokens_of e
tokens_of_stmt (AugmentItem t x op e) = 3 + tokens_of t + tokens_of_index x + tokens_of e
tokens_of_stmt (Delete n) = 2
tokens_of_stmt (Print es) = 2 + tokens_of_all es
tokens_of_stmt (Save n e) = 7 + tokens_of e

abbrev pub tokens_of_lines : List Line → ℕ
tokens_of_lines [] = 0
tokens_of_lines (l ∷ ls) = tokens_of_stmt l.stmt + tokens_of_lines ls
