-- Parts of rules, as the functions have them.
use Rattle.std.specs.Prelude.{ℕ, ◌==◌, Bool, ◌&&◌, nat_lt, List, [], ◌∷◌, ◌++◌, map}
use Rattle.nd_model.specs.Grammar.Grammar.{Gram, One, Then, Many}
use Rattle.nd_model.specs.Grammar.Predict.{next_in}
use Rattle.nd_model.specs.Grammar.Token.{Token}
use Rattle.nd_model.specs.Grammar.Syntax.{Expr, Index, Stmt, Save}
use Rattle.nd_model.specs.Grammar.Kinds.{kind, QUOTED, SUFFIX, START, ANY}
use Rattle.nd_model.specs.Grammar.Cells.{quoted_of, comma_expr, Suffix, AtIndex, OfMethod, Level}
use Rattle.nd_model.specs.Grammar.Factored.{Group, group}

-- `STRING, expr`
abbrev pub saved_body : Gram Token Expr → Gram Token Stmt
saved_body e = Then Save (One QUOTED (λ t. quoted_of t.word)) (comma_expr e)

-- what goes on an operand before the last index, and that, where these stand before
abbrev pub collected : List Suffix → Index → List Group → List Suffix × Index
collected before x [] = (before, x)
collected before x (g ∷ gs) = collected ((before ++ AtIndex x ∷ []) ++ map OfMethod g.0) g.1 gs

abbrev pub trailing : Level → Gram Token (List Suffix × Index)
trailing i = Then (λ g gs. collected (map OfMethod g.0) g.1 gs) (group i) (Many SUFFIX (λ gs. gs) (group i))

-- whether a statement comes, where n may still come
abbrev pub goes_on : ℕ → List Token → Bool
goes_on n ts = nat_lt 0 n && next_in kind START ts

-- whether a statement too many begins here
abbrev pub is_over : ℕ → List Token → Bool
is_over n ts = n == 0 && next_in kind ANY ts
