-- What the code's rules stand for, and what is read of tokens so far.
use Rattle.std.specs.Prelude.{ℕ, Bool, false, List, ◌++◌, map, Option, Some, None}
use Rattle.std.specs.Borrow.{Bor}
use Rattle.nd_grammar.specs.declared.Rule as code
use Rattle.nd_model.specs.Formats.Rules.{Rule, Nothing, One, Then, Or, Many, Part}
use Rattle.nd_model.specs.Formats.RuleReading.{Reading, run}

abbrev pub rule_of : code.Rule → Rule
rule_of code.Nothing = Nothing
rule_of (code.One role set) = One role set
rule_of (code.Then' p a q b) = Then (rule_of a) (rule_of b)
rule_of (code.Or' set p a q b) = Or set (rule_of a) (rule_of b)
rule_of (code.Many' set p a) = Many set (rule_of a)

abbrev pub roles_of : List Part → List ℕ
roles_of ps = map (λ (p : Part). p.role) ps

-- the roles of all tokens that are read, and whether they are a whole text
abbrev pub seen : Reading → List ℕ × Bool
seen r = (roles_of r.parts, r.whole)

-- the roles of all tokens that are read, where these roles are of tokens before them
abbrev pub ahead : List ℕ → Reading → List ℕ × Bool
ahead roles r = (roles ++ roles_of r.parts, r.whole)

-- with these roles reading stopped, or else goes on with the rest by the rules
abbrev pub after : List ℕ → Option (List ℕ) → List Rule → List ℕ × Bool
after roles None k = (roles, false)
after roles (Some rest) k = ahead roles (run k rest)

-- the tokens that are left
abbrev pub rest_of : Option (Bor (List ℕ)) → Option (List ℕ)
rest_of None = None
rest_of (Some rest) = Some rest.now
