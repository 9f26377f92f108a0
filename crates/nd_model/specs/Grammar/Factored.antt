-- The grammar of cells, arranged so that the next token and the one after it tell which part comes.
use Rattle.std.specs.Prelude.{List, [], ◌∷◌}
use Rattle.nd_model.specs.Grammar.Grammar.{Gram, One, Then, Or, Many}
use Rattle.nd_model.specs.Grammar.Token.{Token}
use Rattle.nd_model.specs.Grammar.Syntax.{Expr, Item, Attribute, Method, Index, Stmt, Line}
use Rattle.nd_model.specs.Grammar.Kinds.{BOUND, DOT, SUFFIX, NP_SAVE, DEL, PRINT, IMPORT}
use Rattle.nd_model.specs.Grammar.Cells.{Target, Level, operand, index, method, name_of, value, bound, written, imports, delete, print, save, lines, under}

-- a name before an operator of assignment
unfoldable pub bind : Level → Gram Token Stmt
bind i = Then (λ n v. bound n v.0 v.1) (One BOUND name_of) (value i)

unfoldable pub place : Level → Gram Token Expr
place i = operand Target i

-- methods, and an index behind them
abbrev pub Group : Type 0
Group = List Method × Index

unfoldable pub group : Level → Gram Token Group
group i = Then (λ ms x. (ms, x)) (Many DOT (λ ms. ms) (method i)) (index i)

abbrev pub attributed : Expr → List Method → Expr
attributed t [] = t
attributed t (m ∷ ms) = attributed (Attribute t m) ms

-- what all but the last index make of an operand, and the last one
abbrev pub placed : Expr → List Method → Index → List Group → Expr × Index
placed t ms x [] = (attributed t ms, x)
placed t ms x (g ∷ gs) = placed (Item (attributed t ms) x) g.0 g.1 gs

unfoldable pub groups : Level → Gram Token (Group × List Group)
groups i = Then (λ g gs. (g, gs)) (group i) (Many SUFFIX (λ gs. gs) (group i))

unfoldable pub target : Level → Gram Token (Expr × Index)
target i = Then (λ t gs. placed t gs.0.0 gs.0.1 gs.1) (place i) (groups i)

unfoldable pub assign : Level → Gram Token Stmt
assign i = Then (λ t v. written t.0 t.1 v.0 v.1) (target i) (value i)

unfoldable pub stmt : Level → Gram Token Stmt
stmt i = Or IMPORT imports (Or DEL delete (Or PRINT (print i) (Or NP_SAVE (save i) (Or BOUND (bind i) (assign i)))))

unfoldable pub cell : Gram Token (List Line)
cell = lines (stmt (under 64)) 1000
