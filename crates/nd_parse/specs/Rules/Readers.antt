-- What reads operands, and parts of rules, as the functions have them.
use Rattle.std.specs.Prelude.{ℕ, zero, suc, ◌<◌, Bool, List, [], ◌∷◌, Result}
use Rattle.std.specs.Borrow.{Bor}
use Rattle.std.specs.Fn.{Shared}
use Rattle.nd_token.specs.declared.token.Token.{Token}
use Rattle.nd_model.specs.Grammar.Token as model
use Rattle.nd_model.specs.Grammar.Grammar.{Gram, Done, One, Then, Or, Shut}
use Rattle.nd_model.specs.Grammar.Predict.{read}
use Rattle.nd_model.specs.Grammar.Syntax.{Bound, Omitted, Index, Field, IndexItem, Slice, Listed, Axis, AllAxes, AtAxis}
use Rattle.nd_model.specs.Grammar.Syntax as syntax
use Rattle.nd_model.specs.Grammar.Kinds.{kind, PRODUCT, SUM, SHIFT, AMPERSAND, CARET, BAR, OPEN_NONE, CLOSE, COMMA, COMMA_MORE, COMMA_LAST, COMMA_INNER, COMMA_CLOSING, AXIS, AXIS_CALLED, NONE, QUOTED}
use Rattle.nd_model.specs.Grammar.Cells.{Anywhere, FirstItem, LaterItem, Length, Level, Inside, under, token, unknown_call, mapped, separated, unary, chain, nothing, item, slice, list, quoted_of, named_axis, numbered_axis, comma_keepdims}
use Rattle.nd_model.specs.Grammar.Cells as cells
use Rattle.nd_parse.specs.declared.reader.spot.Spot.{Spot}
use Rattle.nd_syntax.specs.declared.trees.tree.Expr.{Expr}
use Rattle.nd_parse.specs.declared.reader.read.Failure.{Failure}
use Rattle.nd_syntax.specs.Trees.Syntax.{expr_of}
use Rattle.nd_parse.specs.Reader.Gives.{Gives, with_rest, tokens_of, spot_of}

-- f reads a signed operand exactly, if fewer than n levels may be opened
module _ {F : Type 0} (g : Shared F (ℕ × (Spot × (Bor (List Token) × Unit {0}))) (Result (Expr × Bor (List Token)) Failure)) (f : F) where
  -- it may be called
  abbrev pub MayRead : ℕ → Type 0
  MayRead n = (l : ℕ) (s : Spot) (ts : Bor (List Token)) → l < n → g.pre f (l, (s, (ts, tt)))

  -- it gives what the rule reads
  abbrev pub ReadsExactly : ℕ → Type 0
  ReadsExactly n = (l : ℕ) (s : Spot) (ts : Bor (List Token)) (r : Result (Expr × Bor (List Token)) Failure) → l < n → g.post f (l, (s, (ts, tt))) r
      → Gives (with_rest expr_of) r (read kind (unary (spot_of s) (under l)) (tokens_of ts.now))

  abbrev pub Operands : ℕ → Type 0
  Operands n = MayRead n × ReadsExactly n

-- ---- operators

-- the operators of a rank, from `*` to `|`
abbrev pub operators : ℕ → ℕ
operators (suc zero) = PRODUCT
operators (suc (suc zero)) = SUM
operators (suc (suc (suc zero))) = SHIFT
operators (suc (suc (suc (suc zero)))) = AMPERSAND
operators (suc (suc (suc (suc (suc zero))))) = CARET
operators n = BAR

-- operands with operators of a rank, and those below it, between them
unfoldable pub ranked : ℕ → cells.Spot → Level → Gram model.Token syntax.Expr
ranked zero s i = unary s i
ranked (suc n) s i = chain (operators (suc n)) (ranked n s i) (ranked n Anywhere i)

-- ---- indexes

-- `()` without its level
abbrev pub no_items : Gram model.Token (List IndexItem)
no_items = Then (λ _ _. []) (token OPEN_NONE) (token CLOSE)

abbrev pub items_of_index : Inside → Gram model.Token (List IndexItem)
items_of_index i = Or OPEN_NONE (nothing i.level) (separated COMMA_MORE COMMA_LAST (item FirstItem i) (item LaterItem i))

abbrev pub open_slice : Inside → Gram model.Token IndexItem
open_slice inside = mapped (λ b. Slice Omitted b.0 b.1) (slice inside)

abbrev pub list_item : Inside → Gram model.Token IndexItem
list_item inside = mapped Listed (list inside.level)

abbrev pub field_name : Gram model.Token Index
field_name = One QUOTED (λ t. Field (quoted_of t.word))

-- ---- arguments

abbrev pub one_length : Inside → Gram model.Token (List syntax.Expr)
one_length inside = mapped (λ e. e ∷ []) (inside.expr Length)

abbrev pub tuple_body : Inside → Gram model.Token (List syntax.Expr)
tuple_body inside = separated COMMA_INNER COMMA_CLOSING (inside.expr Anywhere) (inside.expr Anywhere)

-- `None`, or an expression at a spot
abbrev pub axis_at : cells.Spot → Inside → Gram model.Token Axis
axis_at s inside = Or NONE (One NONE (λ _. AllAxes)) (mapped AtAxis (inside.expr s))

abbrev pub axis_options : Inside → Gram model.Token (Axis × Bool)
axis_options inside = Then (λ a k. (a, k)) (named_axis AXIS inside) comma_keepdims

abbrev pub only_axis : Inside → Gram model.Token Bound
only_axis inside = Or AXIS (numbered_axis inside) (Shut AXIS_CALLED unknown_call)

abbrev pub comma_axis : Inside → Gram model.Token Bound
comma_axis inside = Or COMMA (Then (λ _ a. a) (token COMMA) (only_axis inside)) (Done Omitted)
