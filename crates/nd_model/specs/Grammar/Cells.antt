-- THE GRAMMAR OF CELLS:
--   cell    = {stmt END}
--   stmt    = "import" "numpy" "as" "np" | "del" NAME | "print" "(" expr {"," expr} ")" | "np" "." "save" "(" STRING "," expr ")"
--           | NAME asg expr | target asg expr
--   asg     = "=" | "+=" | "-=" | "*=" | "//=" | "/=" | "%=" | "**=" | "<<=" | ">>=" | "&=" | "|=" | "^="
--   target  = postfix "[" index "]"
--   expr    = bor [("<" | "<=" | ">" | ">=" | "==" | "!=") bor]
--   bor     = bxor {"|" bxor}      bxor = band {"^" band}     band = shift {"&" shift}
--   shift   = sum {("<<" | ">>") sum}                         sum  = term {("+" | "-") term}
--   term    = unary {("*" | "//" | "/" | "%") unary}
--   unary   = ("-" | "~") unary | power                       power = postfix ["**" unary]
--   postfix = atom {"[" index "]" | "." method}
--   atom    = NAME | INT | "True" | "False" | "(" expr ")" | "abs" "(" expr ")" | "buffer" "(" STRING ")" | "np" "." call
--   index   = STRING | "(" ")" | item {"," item} [","]
--   item    = slice | expr [slice] | "..." | "None" | "np" "." "newaxis" | list        slice = ":" [expr] [":" [expr]]
--   list    = "[" [elem {"," elem} [","]] "]"                                          elem  = list | expr
--   call    = "arange" "(" expr ["," expr ["," expr]] [type] ")" | ("zeros" | "ones") "(" shape [type] ")"
--           | "full" "(" shape "," expr [type] ")" | "array" "(" elem [type] ")" | KIND "(" expr ")"
--           | "broadcast_to" "(" expr "," shape ")" | ("minimum" | "maximum") "(" expr "," expr ")"
--           | ("abs" | "absolute") "(" expr ")" | "load" "(" STRING ")"
--           | ("add" | "multiply" | "minimum" | "maximum") "." fold
--   fold    = "reduce" "(" expr ["," axis] ["," keep] ")" | "accumulate" "(" expr ["," "axis" "=" expr] ")"
--   method  = "T" | "transpose" "(" [expr {"," expr}] ")" | "reshape" "(" (shape | expr "," expr {"," expr}) ")" | "copy" "(" ")"
--           | ("astype" | "view") "(" dtype ")" | ("cumsum" | "cumprod") "(" ["axis" "=" expr] ")"
--           | ("sum" | "prod" | "min" | "max" | "any" | "all" | "argmin" | "argmax") "(" [(axis | expr | "None") ["," keep] | keep] ")"
--   axis    = "axis" "=" (expr | "None")                      keep  = "keepdims" "=" ("True" | "False")
--   shape   = expr | "(" ")" | "(" expr "," [expr {"," expr} [","]] ")"
--   type    = "," "dtype" "=" dtype                           dtype = name | "[" pair {"," pair} [","] "]"
--   pair    = "(" STRING "," name ")"                         name  = "np" "." KIND | STRING
-- KIND is one of bool, bool_, int8, int16, int32, int64, uint8, uint16, uint32, uint64.
-- A cell has at most 1,000 statements, and `(`, `[`, signs and `**` open at most 64 levels.
use Rattle.std.specs.Prelude.{ℕ, zero, suc, ◌-◌, Bool, false, bytes_eq, codes, if◌then◌else◌, List, [], ◌∷◌, Option, Some, None}
use Rattle.nd_model.specs.Grammar.Grammar.{Gram, Done, Here, One, Then, Or, Many, Shut}
use Rattle.nd_model.specs.Grammar.Token as words
use Rattle.nd_model.specs.Grammar.Token.{Word, Token}
use Rattle.nd_model.specs.Arrays.Element.{Kind, Boolean, Int8, Int16, Int32, Int64, UInt8, UInt16, UInt32, UInt64}
use Rattle.nd_model.specs.Grammar.Calls.{Ufunc, Reduction, Accumulation, CumSum, CumProd, Fill, Zeros, Ones, TypeName, KindName, TypeText, FieldType, DType, Simple, Packed}
use Rattle.nd_model.specs.Grammar.Calls as calls
use Rattle.nd_model.specs.Grammar.Syntax.{UnaryOp, BinaryOp, Expr, Name, Integer, Truth, Unary, Binary, Called, Item, Attribute, Call, Arange, Filled, Full, NewArray, Convert, BroadcastTo, Minimum, Maximum, Absolute, PythonAbs, Folded, Load, Buffer, Fold, Reduce, Accumulate, Method, Transpose, Reshape, Copy, AsType, ViewAs, Reduced, Accumulated, Axis, DefaultAxis, AllAxes, AtAxis, Exprs, NoExpr, AndExpr, Index, Field, Items, IndexItems, NoItem, AndItem, IndexItem, At, Slice, Ellipsis, NewAxis, Listed, Bound, Omitted, Given, Elements, NoElement, AndElement, Element, Single, Nested, Stmt, Import, Bind, Augment, Assign, AugmentItem, Delete, Print, Save, Line}
use Rattle.nd_model.specs.Grammar.Syntax as syntax
use Rattle.nd_model.specs.Grammar.Kinds.{NAME, CALLED, NUMPY, NUMPY_CALLED, NEWAXIS, NEWAXIS_CALLED, ARANGE, FILL, FULL, ARRAY, BROADCAST, UFUNC, EXTREMUM, ABSOLUTE, LOAD, SAVE, KIND, NO_FUNCTION, KIND_PLAIN, NO_KIND, REDUCE, ACCUMULATE, NO_FOLD, TRANSPOSED, TRANSPOSE, RESHAPE, COPY, CONVERSION, REDUCTION, ACCUMULATION, NO_METHOD, AXIS, AXIS_BOUND, AXIS_CALLED, KEEPDIMS, KEEPDIMS_BOUND, KEEPDIMS_CALLED, DTYPE, DTYPE_BOUND, DTYPE_CALLED, OPERAND, TRUTH, PLACE, SIGN, PLUS, POWER, PRODUCT, SUM, SHIFT, AMPERSAND, CARET, BAR, COMPARISON, OPEN, OPEN_ONE, OPEN_SOME, OPEN_NONE, OPEN_TUPLE, CLOSE, OPEN_BRACKET, CLOSE_BRACKET, COMMA, COMMA_MORE, COMMA_LAST, COMMA_INNER, COMMA_CLOSING, COLON, ELLIPSIS, NONE, QUOTED, ASSIGNMENT, EQUAL, DOT, NP, NP_NO_NEWAXIS, NP_NEWAXIS, NP_SAVE, NP_NO_SAVE, ABS, BUFFER, PRINT, IMPORT, AS, DEL, END, ANY, SUFFIX, EXPR, FIRST_AXIS, ELEMENT, START}

-- ---- why a token is refused

abbrev pub too_deep : ℕ
too_deep = 1

abbrev pub left_out : ℕ
left_out = 2

abbrev pub too_many : ℕ
too_many = 3

abbrev pub unknown_call : ℕ
unknown_call = 4

-- ---- meanings

abbrev pub bytes_of : Word → List ℕ
bytes_of (words.Name n) = n
bytes_of _ = []

abbrev pub name_of : Token → List ℕ
name_of t = bytes_of t.word

abbrev pub leaf_of : Word → Expr
leaf_of (words.Integer n) = Integer n
leaf_of (words.Keyword k) = Truth (bytes_eq k (codes "True"))
leaf_of w = Name (bytes_of w)

abbrev pub leaf : Token → Expr
leaf t = leaf_of t.word

abbrev pub unary_of : Word → UnaryOp
unary_of words.Tilde = syntax.Invert
unary_of w = syntax.Negative

abbrev pub binary_of : Word → BinaryOp
binary_of words.Minus = syntax.Subtract
binary_of words.Star = syntax.Multiply
binary_of words.DoubleSlash = syntax.FloorDivide
binary_of words.Slash = syntax.Divide
binary_of words.Percent = syntax.Remainder
binary_of words.DoubleStar = syntax.Power
binary_of words.ShiftLeft = syntax.LeftShift
binary_of words.ShiftRight = syntax.RightShift
binary_of words.Ampersand = syntax.BitwiseAnd
binary_of words.Caret = syntax.BitwiseXor
binary_of words.Bar = syntax.BitwiseOr
binary_of words.Less = syntax.Less
binary_of words.LessEqual = syntax.LessEqual
binary_of words.Greater = syntax.Greater
binary_of words.GreaterEqual = syntax.GreaterEqual
binary_of words.DoubleEqual = syntax.Equal
binary_of words.NotEqual = syntax.NotEqual
binary_of w = syntax.Add

-- the operator of `op=`, none for `=`
abbrev pub augment_of : Word → Option BinaryOp
augment_of words.PlusEqual = Some syntax.Add
augment_of words.MinusEqual = Some syntax.Subtract
augment_of words.StarEqual = Some syntax.Multiply
augment_of words.DoubleSlashEqual = Some syntax.FloorDivide
augment_of words.SlashEqual = Some syntax.Divide
augment_of words.PercentEqual = Some syntax.Remainder
augment_of words.DoubleStarEqual = Some syntax.Power
augment_of words.ShiftLeftEqual = Some syntax.LeftShift
augment_of words.ShiftRightEqual = Some syntax.RightShift
augment_of words.AmpersandEqual = Some syntax.BitwiseAnd
augment_of words.CaretEqual = Some syntax.BitwiseXor
augment_of words.BarEqual = Some syntax.BitwiseOr
augment_of w = None

abbrev pub augment : Token → Option BinaryOp
augment t = augment_of t.word

-- an operand and what is done to it, from left to right
abbrev pub chained : Expr → List (BinaryOp × Expr) → Expr
chained e [] = e
chained e (x ∷ xs) = chained (Binary x.0 e x.1) xs

abbrev pub chained_once : Expr → Option (BinaryOp × Expr) → Expr
chained_once e None = e
chained_once e (Some x) = Binary x.0 e x.1

abbrev pub bound : List ℕ → Option BinaryOp → Expr → Stmt
bound n None e = Bind n e
bound n (Some op) e = Augment n op e

abbrev pub written : Expr → Index → Option BinaryOp → Expr → Stmt
written t x None e = Assign t x e
written t x (Some op) e = AugmentItem t x op e

-- what goes on an operand
pub data Suffix : Type 0 where
  AtIndex : Index → Suffix
  OfMethod : Method → Suffix

abbrev pub with_suffix : Expr → Suffix → Expr
with_suffix e (AtIndex i) = Item e i
with_suffix e (OfMethod m) = Attribute e m

-- an operand and what goes on it, from left to right
abbrev pub suffixed : Expr → List Suffix → Expr
suffixed e [] = e
suffixed e (x ∷ xs) = suffixed (with_suffix e x) xs

abbrev pub quoted_of : Word → List ℕ
quoted_of (words.Quoted bs) = bs
quoted_of w = []

abbrev pub items_of : List IndexItem → IndexItems
items_of [] = NoItem
items_of (i ∷ is) = AndItem i (items_of is)

abbrev pub exprs_of : List Expr → Exprs
exprs_of [] = NoExpr
exprs_of (e ∷ es) = AndExpr e (exprs_of es)

abbrev pub elements_of : List Element → Elements
elements_of [] = NoElement
elements_of (e ∷ es) = AndElement e (elements_of es)

-- an expression, or the slice that it begins
abbrev pub sliced : Expr → Option (Bound × Bound) → IndexItem
sliced e None = At e
sliced e (Some b) = Slice (Given e) b.0 b.1

-- the line of the token that stands here
abbrev pub line_at : List Token → ℕ
line_at [] = 0
line_at (t ∷ rest) = t.line

-- ---- meanings of names

abbrev pub kind_named : List ℕ → Kind
kind_named n =
    if bytes_eq n (codes "int8") then Int8
    else (if bytes_eq n (codes "int16") then Int16
    else (if bytes_eq n (codes "int32") then Int32
    else (if bytes_eq n (codes "int64") then Int64
    else (if bytes_eq n (codes "uint8") then UInt8
    else (if bytes_eq n (codes "uint16") then UInt16
    else (if bytes_eq n (codes "uint32") then UInt32
    else (if bytes_eq n (codes "uint64") then UInt64
    else Boolean)))))))

abbrev pub fill_named : List ℕ → Fill
fill_named n = if bytes_eq n (codes "ones") then Ones else Zeros

abbrev pub extremum_named : List ℕ → Expr → Expr → Call
extremum_named n a b = if bytes_eq n (codes "minimum") then Minimum a b else Maximum a b

abbrev pub ufunc_named : List ℕ → Ufunc
ufunc_named n =
    if bytes_eq n (codes "add") then calls.Add
    else (if bytes_eq n (codes "multiply") then calls.Multiply
    else (if bytes_eq n (codes "minimum") then calls.Minimum
    else calls.Maximum))

abbrev pub conversion_named : List ℕ → DType → Method
conversion_named n t = if bytes_eq n (codes "astype") then AsType t else ViewAs t

abbrev pub reduction_named : List ℕ → Reduction
reduction_named n =
    if bytes_eq n (codes "sum") then calls.Sum
    else (if bytes_eq n (codes "prod") then calls.Prod
    else (if bytes_eq n (codes "min") then calls.Min
    else (if bytes_eq n (codes "max") then calls.Max
    else (if bytes_eq n (codes "any") then calls.Any
    else (if bytes_eq n (codes "all") then calls.All
    else (if bytes_eq n (codes "argmin") then calls.ArgMin
    else calls.ArgMax))))))

abbrev pub accumulation_named : List ℕ → Accumulation
accumulation_named n = if bytes_eq n (codes "cumsum") then CumSum else CumProd

abbrev pub truth_of : Word → Bool
truth_of (words.Keyword k) = bytes_eq k (codes "True")
truth_of w = false

-- `np.arange` of a first number, those behind it, and a type
abbrev pub ranged : Expr → Option (Expr × Option Expr) × Option DType → Call
ranged a (None, t) = Arange Omitted a Omitted t
ranged a (Some (b, None), t) = Arange (Given a) b Omitted t
ranged a (Some (b, Some c), t) = Arange (Given a) b (Given c) t

-- ---- expressions

abbrev pub token : ℕ → Gram Token Token
token set = One set (λ t. t)

abbrev pub between : {A : Type 0} → ℕ → Gram Token A → ℕ → Gram Token A
between first inner last = Then (λ _ x. x) (token first) (Then (λ x _. x) inner (token last))

-- the same texts, which mean something else
abbrev pub mapped : {B C : Type 0} → (B → C) → Gram Token B → Gram Token C
mapped f g = Then (λ x _. f x) g (Done (tt {0}))

abbrev pub some : {C : Type 0} → Gram Token C → Gram Token (Option C)
some g = mapped Some g

-- one or the other
infixr 20 ◌or◌
abbrev pub ◌or◌ : {C : Type 0} → Gram Token C → Gram Token C → Gram Token C
a or b = Or 0 a b

-- Where an expression begins. A statement does not begin with `np.save` as an expression; no expression begins with `()` or
-- `np.newaxis` where an index does, and each of its items may begin with the second; where a length may stand `()` and a tuple
-- are shapes; and where an argument may be named, its name with `=` begins no expression.
pub data Spot : Type 0 where
  Anywhere : Spot
  Statement : Spot
  -- as a statement, where no name stands before an operator of assignment
  Target : Spot
  FirstItem : Spot
  LaterItem : Spot
  Length : Spot
  -- where `dtype=` may stand
  Number : Spot
  -- where `axis=` and `keepdims=` may stand
  AxisNumber : Spot

-- the operands of one token that may stand there, and the tokens `np` and `(`
abbrev pub leaves : Spot → ℕ
leaves Target = PLACE
leaves Number = OPERAND - DTYPE_BOUND
leaves AxisNumber = OPERAND - AXIS_BOUND - KEEPDIMS_BOUND
leaves s = OPERAND

abbrev pub modules : Spot → ℕ
modules Statement = NP_NO_SAVE
modules Target = NP_NO_SAVE
modules FirstItem = NP_NO_NEWAXIS
modules LaterItem = NP_NO_NEWAXIS
modules s = NP

abbrev pub openings : Spot → ℕ
openings FirstItem = OPEN_SOME
openings Length = OPEN_ONE
openings s = OPEN

-- the levels that may still be opened, and the rules that call themselves one level further in
pub data Level : Type 1 where
  Bottom : Level
  Under : (level : Level) → (expr : Spot → Gram Token Expr) → (unary : Gram Token Expr) → (list : Gram Token Elements) → Level

-- one level further in
pub record Inside : Type 1 where
  pub level : Level
  pub expr : Spot → Gram Token Expr
  pub unary : Gram Token Expr
  pub list : Gram Token Elements

-- A token of the set opens a level. Where none is left it is refused.
abbrev pub enter : {C : Type 0} → Level → ℕ → (Inside → Gram Token C) → Gram Token C
enter Bottom set inner = Shut set too_deep
enter (Under l e u s) set inner = inner (record { level = l; expr = e; unary = u; list = s })

-- A name that is called is refused wherever a name may stand.
unfoldable pub name : Gram Token (List ℕ)
name = Or NAME (One NAME name_of) (Shut CALLED unknown_call)

-- `(expr)`
unfoldable pub grouped : ℕ → Level → Gram Token Expr
grouped opening i = enter i opening (λ inside. between opening (inside.expr Anywhere) CLOSE)

-- ---- indexes

-- `:[expr][:[expr]]`
unfoldable pub bound_in : Inside → Gram Token Bound
bound_in inside = Or EXPR (mapped Given (inside.expr Anywhere)) (Done Omitted)

unfoldable pub step_in : Inside → Gram Token Bound
step_in inside = Or COLON (Then (λ _ b. b) (token COLON) (bound_in inside)) (Done Omitted)

unfoldable pub slice : Inside → Gram Token (Bound × Bound)
slice inside = Then (λ _ b. b) (token COLON) (Then (λ stop step. (stop, step)) (bound_in inside) (step_in inside))

unfoldable pub newaxis_name : Gram Token IndexItem
newaxis_name = Or NEWAXIS (One NEWAXIS (λ _. NewAxis)) (Shut NEWAXIS_CALLED unknown_call)

unfoldable pub newaxis : Gram Token IndexItem
newaxis = Then (λ _ i. i) (token NP_NEWAXIS) (Then (λ _ i. i) (token DOT) newaxis_name)

abbrev pub element : Inside → Gram Token Element
element inside = Or OPEN_BRACKET (mapped Nested inside.list) (mapped Single (inside.expr Anywhere))

-- parts with commas between them, and perhaps a last comma, which has a kind of its own
abbrev pub separated : {A : Type 0} → (comma last : ℕ) → Gram Token A → Gram Token A → Gram Token (List A)
separated comma last first part =
    Then (λ x xs. x ∷ xs) first
    (Then (λ xs _. xs) (Many comma (λ xs. xs) (Then (λ _ x. x) (token comma) part)) (Or last (One last (λ _. tt {0})) (Done (tt {0}))))

unfoldable pub elements : Inside → Gram Token (List Element)
elements inside = Or ELEMENT (separated COMMA_MORE COMMA_LAST (element inside) (element inside)) (Done [])

unfoldable pub list : Level → Gram Token Elements
list i = enter i OPEN_BRACKET (λ inside. between OPEN_BRACKET (mapped elements_of (elements inside)) CLOSE_BRACKET)

unfoldable pub part : Spot → Inside → Gram Token IndexItem
part s inside = Then sliced (inside.expr s) (Or COLON (some (slice inside)) (Done None))

unfoldable pub item : Spot → Inside → Gram Token IndexItem
item s inside =
    Or COLON (mapped (λ b. Slice Omitted b.0 b.1) (slice inside))
    (Or ELLIPSIS (One ELLIPSIS (λ _. Ellipsis))
    (Or NONE (One NONE (λ _. NewAxis))
    (Or NP_NEWAXIS newaxis
    (Or OPEN_BRACKET (mapped Listed (list inside.level)) (part s inside)))))

-- `()`
unfoldable pub nothing : Level → Gram Token (List IndexItem)
nothing i = enter i OPEN_NONE (λ _. Then (λ _ _. []) (token OPEN_NONE) (token CLOSE))

unfoldable pub contents : Inside → Gram Token Index
contents inside =
    Or QUOTED (One QUOTED (λ t. Field (quoted_of t.word)))
    (mapped (λ is. Items (items_of is)) (Or OPEN_NONE (nothing inside.level) (separated COMMA_MORE COMMA_LAST (item FirstItem inside) (item LaterItem inside))))

-- `[index]`
unfoldable pub index : Level → Gram Token Index
index i = enter i OPEN_BRACKET (λ inside. between OPEN_BRACKET (contents inside) CLOSE_BRACKET)

-- ---- parts of calls

abbrev pub comma_expr : Gram Token Expr → Gram Token Expr
comma_expr e = Then (λ _ x. x) (token COMMA) e

-- `expr {"," expr}`
unfoldable pub exprs : Gram Token Expr → Gram Token Expr → Gram Token (List Expr)
exprs first e = Then (λ x xs. x ∷ xs) first (Many COMMA (λ xs. xs) (comma_expr e))

-- `(STRING)`
unfoldable pub quoted : Level → Gram Token (List ℕ)
quoted i = enter i OPEN (λ _. between OPEN (One QUOTED (λ t. quoted_of t.word)) CLOSE)

-- `()`, for a shape without axes
unfoldable pub no_lengths : Level → Gram Token (List Expr)
no_lengths i = enter i OPEN_NONE (λ _. Then (λ _ _. []) (token OPEN_NONE) (token CLOSE))

-- `(expr, ..)`
unfoldable pub tuple : Level → Gram Token (List Expr)
tuple i =
    enter i OPEN_TUPLE (λ inside. between OPEN_TUPLE (separated COMMA_INNER COMMA_CLOSING (inside.expr Anywhere) (inside.expr Anywhere)) CLOSE)

unfoldable pub shape : Inside → Gram Token (List Expr)
shape inside =
    Or OPEN_TUPLE (tuple inside.level) (Or OPEN_NONE (no_lengths inside.level) (mapped (λ e. e ∷ []) (inside.expr Length)))

-- ---- types

-- The name of a kind is not called.
unfoldable pub kind_name : Gram Token TypeName
kind_name = Or KIND_PLAIN (One KIND_PLAIN (λ t. KindName (kind_named (name_of t)))) (Shut NO_KIND unknown_call)

unfoldable pub type_name : Gram Token TypeName
type_name =
    Or NP (Then (λ _ t. t) (token NP) (Then (λ _ t. t) (token DOT) kind_name))
    (One QUOTED (λ t. TypeText (quoted_of t.word)))

-- `(STRING, type)`
unfoldable pub pair : Level → Gram Token FieldType
pair i =
    enter i OPEN (λ _. between OPEN
    (Then (λ n t. record { name = n; type_name = t }) (One QUOTED (λ t. quoted_of t.word)) (Then (λ _ t. t) (token COMMA) type_name)) CLOSE)

-- `[(STRING, type), ..]`
unfoldable pub fields : Level → Gram Token (List FieldType)
fields i =
    enter i OPEN_BRACKET (λ inside. between OPEN_BRACKET (separated COMMA_MORE COMMA_LAST (pair inside.level) (pair inside.level)) CLOSE_BRACKET)

unfoldable pub dtype : Level → Gram Token DType
dtype i = Or OPEN_BRACKET (mapped Packed (fields i)) (mapped Simple type_name)

-- `dtype = type`, where the name is of the set
unfoldable pub typing : ℕ → Level → Gram Token DType
typing key i = Then (λ _ t. t) (token key) (Then (λ _ t. t) (token EQUAL) (dtype i))

unfoldable pub only_typing : Level → Gram Token DType
only_typing i = Or DTYPE (typing DTYPE i) (Shut DTYPE_CALLED unknown_call)

-- `, dtype = type`
unfoldable pub comma_typing : Level → Gram Token (Option DType)
comma_typing i = Or COMMA (some (Then (λ _ t. t) (token COMMA) (only_typing i))) (Done None)

-- ---- axes

-- `axis = ..`, where the name is of the set
unfoldable pub named_axis : ℕ → Inside → Gram Token Axis
named_axis key inside =
    Then (λ _ a. a) (token key) (Then (λ _ a. a) (token EQUAL) (Or NONE (One NONE (λ _. AllAxes)) (mapped AtAxis (inside.expr Anywhere))))

-- `axis = expr`
unfoldable pub numbered_axis : Inside → Gram Token Bound
numbered_axis inside = Then (λ _ e. Given e) (token AXIS) (Then (λ _ e. e) (token EQUAL) (inside.expr Anywhere))

-- `keepdims = True`, where the name is of the set
unfoldable pub named_keepdims : ℕ → Gram Token Bool
named_keepdims key = Then (λ _ k. k) (token key) (Then (λ _ k. k) (token EQUAL) (One TRUTH (λ t. truth_of t.word)))

unfoldable pub only_keepdims : Gram Token Bool
only_keepdims = Or KEEPDIMS (named_keepdims KEEPDIMS) (Shut KEEPDIMS_CALLED unknown_call)

-- `, keepdims = True`
unfoldable pub comma_keepdims : Gram Token Bool
comma_keepdims = Or COMMA (Then (λ _ k. k) (token COMMA) only_keepdims) (Done false)

-- `axis = .. [, keepdims = ..]`, or `keepdims = ..`
unfoldable pub options : Inside → Gram Token (Axis × Bool)
options inside =
    Or AXIS (Then (λ a k. (a, k)) (named_axis AXIS inside) comma_keepdims)
    (Or AXIS_CALLED (Shut AXIS_CALLED unknown_call) (mapped (λ k. (DefaultAxis, k)) only_keepdims))

-- the same behind a comma
unfoldable pub comma_options : Inside → Gram Token (Axis × Bool)
comma_options inside = Or COMMA (Then (λ _ o. o) (token COMMA) (options inside)) (Done (DefaultAxis, false))

-- `None`, or a number
unfoldable pub first_axis : Inside → Gram Token Axis
first_axis inside = Or NONE (One NONE (λ _. AllAxes)) (mapped AtAxis (inside.expr AxisNumber))

-- ---- functions

-- behind a first number of `arange`: a second one, a third one, a type
unfoldable pub third : Inside → Gram Token (Option Expr × Option DType)
third inside =
    Or COMMA (Then (λ _ x. x) (token COMMA)
    (Or DTYPE_BOUND (mapped (λ t. (None, Some t)) (typing DTYPE_BOUND inside.level))
    (Then (λ c t. (Some c, t)) (inside.expr Number) (comma_typing inside.level)))) (Done (None, None))

unfoldable pub second : Inside → Gram Token (Option (Expr × Option Expr) × Option DType)
second inside =
    Or COMMA (Then (λ _ x. x) (token COMMA)
    (Or DTYPE_BOUND (mapped (λ t. (None, Some t)) (typing DTYPE_BOUND inside.level))
    (Then (λ b x. (Some (b, x.0), x.1)) (inside.expr Number) (third inside)))) (Done (None, None))

unfoldable pub arange : Level → Gram Token Call
arange i = enter i OPEN (λ inside. between OPEN (Then ranged (inside.expr Anywhere) (second inside)) CLOSE)

-- `(shape [, dtype = type])`
unfoldable pub filled : Level → Gram Token (List Expr × Option DType)
filled i = enter i OPEN (λ inside. between OPEN (Then (λ s t. (s, t)) (shape inside) (comma_typing inside.level)) CLOSE)

unfoldable pub full : Level → Gram Token Call
full i =
    enter i OPEN (λ inside. between OPEN
    (Then (λ s (x : Expr × Option DType). Full (exprs_of s) x.0 x.1) (shape inside) (Then (λ e t. (e, t)) (comma_expr (inside.expr Anywhere)) (comma_typing inside.level))) CLOSE)

unfoldable pub new_array : Level → Gram Token Call
new_array i = enter i OPEN (λ inside. between OPEN (Then NewArray (element inside) (comma_typing inside.level)) CLOSE)

unfoldable pub broadcast_to : Level → Gram Token Call
broadcast_to i =
    enter i OPEN (λ inside. between OPEN (Then (λ e s. BroadcastTo e (exprs_of s)) (inside.expr Anywhere) (Then (λ _ s. s) (token COMMA) (shape inside))) CLOSE)

-- `(expr, expr)`
unfoldable pub two : Level → Gram Token (Expr × Expr)
two i = enter i OPEN (λ inside. between OPEN (Then (λ a b. (a, b)) (inside.expr Anywhere) (comma_expr (inside.expr Anywhere))) CLOSE)

unfoldable pub reduce : Level → Gram Token Fold
reduce i = enter i OPEN (λ inside. between OPEN (Then (λ e o. Reduce e o.0 o.1) (inside.expr Anywhere) (comma_options inside)) CLOSE)

unfoldable pub accumulate : Level → Gram Token Fold
accumulate i =
    enter i OPEN (λ inside. between OPEN
    (Then Accumulate (inside.expr Anywhere)
    (Or COMMA (Then (λ _ a. a) (token COMMA) (Or AXIS (numbered_axis inside) (Shut AXIS_CALLED unknown_call))) (Done Omitted))) CLOSE)

-- `.reduce(..)`, `.accumulate(..)`
unfoldable pub fold : Level → Gram Token Fold
fold i =
    Then (λ _ f. f) (token DOT)
    (Or REDUCE (Then (λ _ f. f) (token REDUCE) (reduce i))
    (Or ACCUMULATE (Then (λ _ f. f) (token ACCUMULATE) (accumulate i))
    (Shut NO_FOLD unknown_call)))

-- what stands behind `np.`
unfoldable pub call : Level → Gram Token Call
call i =
    Or ARANGE (Then (λ _ c. c) (token ARANGE) (arange i))
    (Or FILL (Then (λ t x. Filled (fill_named (name_of t)) (exprs_of x.0) x.1) (token FILL) (filled i))
    (Or FULL (Then (λ _ c. c) (token FULL) (full i))
    (Or ARRAY (Then (λ _ c. c) (token ARRAY) (new_array i))
    (Or BROADCAST (Then (λ _ c. c) (token BROADCAST) (broadcast_to i))
    (Or KIND (Then (λ t e. Convert (kind_named (name_of t)) e) (token KIND) (grouped OPEN i))
    (Or EXTREMUM (Then (λ t x. extremum_named (name_of t) x.0 x.1) (token EXTREMUM) (two i))
    (Or ABSOLUTE (Then (λ _ e. Absolute e) (token ABSOLUTE) (grouped OPEN i))
    (Or UFUNC (Then (λ t f. Folded (ufunc_named (name_of t)) f) (token UFUNC) (fold i))
    (Or LOAD (Then (λ _ n. Load n) (token LOAD) (quoted i))
    (Shut NO_FUNCTION unknown_call))))))))))

-- `np.` and a call
unfoldable pub function : ℕ → Level → Gram Token Expr
function np i = Then (λ _ e. e) (token np) (Then (λ _ c. Called c) (token DOT) (call i))

-- ---- methods

-- `()`
unfoldable pub empty : Level → Gram Token (Unit {0})
empty i = enter i OPEN (λ _. Then (λ _ _. tt) (token OPEN) (token CLOSE))

-- `(type)`
unfoldable pub type_argument : Level → Gram Token DType
type_argument i = enter i OPEN (λ inside. between OPEN (dtype inside.level) CLOSE)

-- `([expr {"," expr}])`
unfoldable pub axes : Level → Gram Token (List Expr)
axes i = enter i OPEN (λ inside. between OPEN (Or EXPR (exprs (inside.expr Anywhere) (inside.expr Anywhere)) (Done [])) CLOSE)

-- `(shape)`, or several lengths
unfoldable pub lengths : Level → Gram Token (List Expr)
lengths i =
    enter i OPEN (λ inside. between OPEN
    (Or OPEN_TUPLE (tuple inside.level) (Or OPEN_NONE (no_lengths inside.level) (exprs (inside.expr Length) (inside.expr Anywhere)))) CLOSE)

-- what stands in the brackets of a reduction
unfoldable pub reduction_options : Inside → Gram Token (Axis × Bool)
reduction_options inside =
    Or AXIS_BOUND (Then (λ a k. (a, k)) (named_axis AXIS_BOUND inside) comma_keepdims)
    (Or KEEPDIMS_BOUND (mapped (λ k. (DefaultAxis, k)) (named_keepdims KEEPDIMS_BOUND))
    (Or FIRST_AXIS (Then (λ a k. (a, k)) (first_axis inside) comma_keepdims)
    (Done (DefaultAxis, false))))

unfoldable pub reduction : Level → Gram Token (Axis × Bool)
reduction i = enter i OPEN (λ inside. between OPEN (reduction_options inside) CLOSE)

-- `([axis = expr])`
unfoldable pub accumulation : Level → Gram Token Bound
accumulation i =
    enter i OPEN (λ inside. between OPEN (Or AXIS (numbered_axis inside) (Or AXIS_CALLED (Shut AXIS_CALLED unknown_call) (Done Omitted))) CLOSE)

-- what stands behind the dot
unfoldable pub attribute : Level → Gram Token Method
attribute i =
    Or TRANSPOSED (One TRANSPOSED (λ _. Transpose NoExpr))
    (Or TRANSPOSE (Then (λ _ es. Transpose (exprs_of es)) (token TRANSPOSE) (axes i))
    (Or RESHAPE (Then (λ _ es. Reshape (exprs_of es)) (token RESHAPE) (lengths i))
    (Or COPY (Then (λ _ _. Copy) (token COPY) (empty i))
    (Or CONVERSION (Then (λ t d. conversion_named (name_of t) d) (token CONVERSION) (type_argument i))
    (Or REDUCTION (Then (λ t o. Reduced (reduction_named (name_of t)) o.0 o.1) (token REDUCTION) (reduction i))
    (Or ACCUMULATION (Then (λ t a. Accumulated (accumulation_named (name_of t)) a) (token ACCUMULATION) (accumulation i))
    (Shut NO_METHOD unknown_call)))))))

unfoldable pub method : Level → Gram Token Method
method i = Then (λ _ m. m) (token DOT) (attribute i)

-- ---- operands and operators

-- A sign `+` is left out.
unfoldable pub operand : Spot → Level → Gram Token Expr
operand s i =
    Or (leaves s) (One (leaves s) leaf)
    (Or CALLED (Shut CALLED unknown_call)
    (Or PLUS (Shut PLUS left_out)
    (Or (modules s) (function (modules s) i)
    (Or ABS (Then (λ _ e. Called (PythonAbs e)) (token ABS) (grouped OPEN i))
    (Or BUFFER (Then (λ _ n. Called (Buffer n)) (token BUFFER) (quoted i))
    (grouped (openings s) i))))))

-- `[index]`, `.method`
unfoldable pub suffix : Level → Gram Token Suffix
suffix i = Or OPEN_BRACKET (mapped AtIndex (index i)) (mapped OfMethod (method i))

unfoldable pub postfix : Spot → Level → Gram Token Expr
postfix s i = Then suffixed (operand s i) (Many SUFFIX (λ xs. xs) (suffix i))

-- `** unary`
unfoldable pub exponent : Level → Gram Token (BinaryOp × Expr)
exponent i = enter i POWER (λ inside. Then (λ t x. (binary_of t.word, x)) (token POWER) inside.unary)

unfoldable pub power : Spot → Level → Gram Token Expr
power s i = Then chained_once (postfix s i) (Or POWER (some (exponent i)) (Done None))

-- `-unary`, `~unary`
unfoldable pub signed : Level → Gram Token Expr
signed i = enter i SIGN (λ inside. Then (λ t x. Unary (unary_of t.word) x) (token SIGN) inside.unary)

unfoldable pub unary : Spot → Level → Gram Token Expr
unary s i = Or SIGN (signed i) (power s i)

-- an operator of the set, with its right operand
abbrev pub operation : ℕ → Gram Token Expr → Gram Token (BinaryOp × Expr)
operation set operand = Then (λ t x. (binary_of t.word, x)) (token set) operand

-- operands with operators of the set between them
abbrev pub chain : ℕ → Gram Token Expr → Gram Token Expr → Gram Token Expr
chain set first operand = Then chained first (Many set (λ xs. xs) (operation set operand))

unfoldable pub term : Spot → Level → Gram Token Expr
term s i = chain PRODUCT (unary s i) (unary Anywhere i)

unfoldable pub sum : Spot → Level → Gram Token Expr
sum s i = chain SUM (term s i) (term Anywhere i)

unfoldable pub shift : Spot → Level → Gram Token Expr
shift s i = chain SHIFT (sum s i) (sum Anywhere i)

unfoldable pub band : Spot → Level → Gram Token Expr
band s i = chain AMPERSAND (shift s i) (shift Anywhere i)

unfoldable pub bxor : Spot → Level → Gram Token Expr
bxor s i = chain CARET (band s i) (band Anywhere i)

unfoldable pub bor : Spot → Level → Gram Token Expr
bor s i = chain BAR (bxor s i) (bxor Anywhere i)

-- A second comparison is left out.
unfoldable pub comparison : Level → Gram Token (BinaryOp × Expr)
comparison i = Then (λ x _. x) (operation COMPARISON (bor Anywhere i)) (Or COMPARISON (Shut COMPARISON left_out) (Done (tt {0})))

unfoldable pub expr : Spot → Level → Gram Token Expr
expr s i = Then chained_once (bor s i) (Or COMPARISON (some (comparison i)) (Done None))

unfoldable pub under : ℕ → Level
under zero = Bottom
under (suc n) = Under (under n) (λ s. expr s (under n)) (unary Anywhere (under n)) (list (under n))

-- ---- statements

unfoldable pub module_name : Gram Token Token
module_name = Or NUMPY (token NUMPY) (Shut NUMPY_CALLED unknown_call)

-- `import numpy as np`
unfoldable pub imports : Gram Token Stmt
imports = Then (λ _ s. s) (token IMPORT) (Then (λ _ s. s) module_name (Then (λ _ _. Import) (token AS) (token NP)))

-- `del NAME`
unfoldable pub delete : Gram Token Stmt
delete = Then (λ _ n. Delete n) (token DEL) name

unfoldable pub printed : Level → Gram Token (List Expr)
printed i = enter i OPEN (λ inside. between OPEN (exprs (inside.expr Anywhere) (inside.expr Anywhere)) CLOSE)

-- `print(expr {"," expr})`
unfoldable pub print : Level → Gram Token Stmt
print i = Then (λ _ es. Print es) (token PRINT) (printed i)

-- `(STRING, expr)`
unfoldable pub saved : Level → Gram Token Stmt
saved i = enter i OPEN (λ inside. between OPEN (Then Save (One QUOTED (λ t. quoted_of t.word)) (comma_expr (inside.expr Anywhere))) CLOSE)

-- `np.save(STRING, expr)`
unfoldable pub save : Level → Gram Token Stmt
save i = Then (λ _ s. s) (token NP_SAVE) (Then (λ _ s. s) (token DOT) (Then (λ _ s. s) (token SAVE) (saved i)))

-- `= expr`, `op= expr`
unfoldable pub value : Level → Gram Token (Option BinaryOp × Expr)
value i = Then (λ op e. (op, e)) (One ASSIGNMENT augment) (expr Anywhere i)

-- `NAME = expr`, `NAME op= expr`
unfoldable pub bind : Level → Gram Token Stmt
bind i = Then (λ n v. bound n v.0 v.1) name (value i)

-- `postfix[index]`: the array, and its index
unfoldable pub target : Level → Gram Token (Expr × Index)
target i = Then (λ t x. (t, x)) (postfix Statement i) (index i)

-- `target = expr`, `target op= expr`
unfoldable pub assign : Level → Gram Token Stmt
assign i = Then (λ t v. written t.0 t.1 v.0 v.1) (target i) (value i)

unfoldable pub stmt : Level → Gram Token Stmt
stmt i = imports or delete or print i or save i or bind i or assign i

-- a statement with the line of its first token
unfoldable pub line : Gram Token Stmt → Gram Token Line
line s = Then (λ l s. record { line = l; stmt = s }) (Here line_at) (Then (λ s _. s) s (token END))

-- at most n of these statements: the first token of one more is refused
unfoldable pub lines : Gram Token Stmt → ℕ → Gram Token (List Line)
lines s zero = Or ANY (Shut ANY too_many) (Done [])
lines s (suc n) = Or START (Then (λ l ls. l ∷ ls) (line s) (lines s n)) (Done [])

unfoldable pub cell : Gram Token (List Line)
cell = lines (stmt (under 64)) 1000
