-- Parts of rules, as the functions have them.
use Rattle.std.specs.Prelude.{ℕ, List, []}
use Rattle.nd_model.specs.Grammar.Grammar.{Gram, Done, One, Then, Or}
use Rattle.nd_model.specs.Grammar.Token.{Token}
use Rattle.nd_model.specs.Grammar.Syntax.{Expr}
use Rattle.nd_model.specs.Grammar.Calls.{TypeName, TypeText, FieldType}
use Rattle.nd_model.specs.Grammar.Kinds.{OPEN, OPEN_NONE, CLOSE, COMMA, COMMA_MORE, COMMA_LAST, QUOTED}
use Rattle.nd_model.specs.Grammar.Cells.{token, quoted_of, separated, type_name, pair, Level}

abbrev pub quoted_text : Gram Token (List ℕ)
quoted_text = One QUOTED (λ t. quoted_of t.word)

abbrev pub text_type : Gram Token TypeName
text_type = One QUOTED (λ t. TypeText (quoted_of t.word))

-- `()` without its level
abbrev pub closed : Gram Token (List Expr)
closed = Then (λ _ _. []) (token OPEN_NONE) (token CLOSE)

abbrev pub opened : Gram Token (Unit {0})
opened = Then (λ _ _. tt) (token OPEN) (token CLOSE)

abbrev pub field : Gram Token FieldType
field = Then (λ n t. record { name = n; type_name = t }) quoted_text (Then (λ _ t. t) (token COMMA) type_name)

abbrev pub some_fields : Level → Gram Token (List FieldType)
some_fields i = separated COMMA_MORE COMMA_LAST (pair i) (pair i)

abbrev pub behind_comma : {A : Type 0} → ℕ → Gram Token A → Gram Token A
behind_comma comma part = Then (λ _ x. x) (token comma) part

abbrev pub last_comma : ℕ → Gram Token (Unit {0})
last_comma last = Or last (One last (λ _. tt {0})) (Done (tt {0}))
