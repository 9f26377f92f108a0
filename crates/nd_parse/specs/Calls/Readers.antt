-- Parts of rules, as the functions have them.
use Rattle.std.specs.Prelude.{◌≡◌, ℕ, List, [], Option, Result, Ok, Err, IfOk}
use Rattle.std.specs.Borrow.{Bor}
use Rattle.nd_token.specs.declared.token.Token as rust
use Rattle.nd_model.specs.Grammar.Grammar.{Gram, Done, Then, Or, Shut}
use Rattle.nd_model.specs.Grammar.Predict.{read}
use Rattle.nd_model.specs.Grammar.Token.{Token}
use Rattle.nd_model.specs.Grammar.Calls.{DType}
use Rattle.nd_model.specs.Grammar.Syntax.{Expr, Unary, Exprs, Call, Full, NewArray, BroadcastTo, Fold, Reduce, Accumulate, Bound, Omitted}
use Rattle.nd_model.specs.Grammar.Kinds.{kind, SIGN, OPEN_NONE, OPEN_TUPLE, COMMA, AXIS, AXIS_CALLED, EXPR}
use Rattle.nd_model.specs.Grammar.Cells.{unknown_call, token, enter, Anywhere, Length, Level, Inside, exprs_of, ranged, element, comma_expr, exprs, no_lengths, tuple, shape, comma_typing, numbered_axis, comma_options, second, unary_of}
use Rattle.nd_parse.specs.declared.reader.read.Failure.{Failure}
use Rattle.nd_parse.specs.Reader.Gives.{Gives, tokens_of, front}
use Rattle.nd_parse.specs.Rules.Readers.{comma_axis}

-- a token of the set, which opens a level
abbrev pub opens : ℕ → Level → Gram Token Token
opens set i = enter i set (λ _. token set)

-- what was read, where a token of the set ends it
abbrev pub Closes : {X : Type 0} → ℕ
    → Result (X × Bor (List rust.Token)) Failure → Result (X × Bor (List rust.Token)) Failure → Type 0
Closes set (Ok x) result =
    Gives (λ y. (front (tokens_of x.1.now), tokens_of y.1.now)) result
    (read kind (token set) (tokens_of x.1.now)) × IfOk result (λ y. y.0 ≡ x.0)
Closes set (Err e) result = result ≡ Err e

-- a sign with its operand
abbrev pub with_sign : Gram Token Expr → Gram Token Expr
with_sign e = Then (λ t x. Unary (unary_of t.word) x) (token SIGN) e

-- ---- calls

-- numbers between commas, as a tree has them
abbrev pub numbers : List Expr → Exprs
numbers es = exprs_of es

abbrev pub arange_body : Inside → Gram Token Call
arange_body inside = Then ranged (inside.expr Anywhere) (second inside)

abbrev pub filled_body : Inside → Gram Token (List Expr × Option DType)
filled_body inside = Then (λ s t. (s, t)) (shape inside) (comma_typing inside.level)

abbrev pub full_body : Inside → Gram Token Call
full_body inside =
    Then (λ s (x : Expr × Option DType). Full (exprs_of s) x.0 x.1) (shape inside)
    (Then (λ e t. (e, t)) (comma_expr (inside.expr Anywhere)) (comma_typing inside.level))

abbrev pub new_array_body : Inside → Gram Token Call
new_array_body inside = Then NewArray (element inside) (comma_typing inside.level)

abbrev pub broadcast_to_body : Inside → Gram Token Call
broadcast_to_body inside = Then (λ e s. BroadcastTo e (exprs_of s)) (inside.expr Anywhere) (Then (λ _ s. s) (token COMMA) (shape inside))

abbrev pub two_body : Inside → Gram Token (Expr × Expr)
two_body inside = Then (λ a b. (a, b)) (inside.expr Anywhere) (comma_expr (inside.expr Anywhere))

abbrev pub reduce_body : Inside → Gram Token Fold
reduce_body inside = Then (λ e o. Reduce e o.0 o.1) (inside.expr Anywhere) (comma_options inside)

abbrev pub accumulate_body : Inside → Gram Token Fold
accumulate_body inside = Then Accumulate (inside.expr Anywhere) (comma_axis inside)

-- ---- methods

abbrev pub axes_body : Inside → Gram Token (List Expr)
axes_body inside = Or EXPR (exprs (inside.expr Anywhere) (inside.expr Anywhere)) (Done [])

abbrev pub lengths_body : Inside → Gram Token (List Expr)
lengths_body inside = Or OPEN_TUPLE (tuple inside.level) (Or OPEN_NONE (no_lengths inside.level) (exprs (inside.expr Length) (inside.expr Anywhere)))

abbrev pub accumulation_body : Inside → Gram Token Bound
accumulation_body inside = Or AXIS (numbered_axis inside) (Or AXIS_CALLED (Shut AXIS_CALLED unknown_call) (Done Omitted))
