-- Grammars as plain data, whose texts are lists of tokens: each token that a rule takes gets a role.
use Rattle.std.specs.Prelude.{◌≡◌, ◌⊎◌, ℕ, zero, suc, true, List, [], ◌∷◌, ◌++◌, map}
use Rattle.nd_model.specs.Grammar.Grammar.{has}

-- A token is its kind, and a set of kinds is a number, by its bits. The set of Or and Many is for the reader alone: the kinds with
-- which the first part, or a further one, begins.
pub data Rule : Type 0 where
  Nothing : Rule
  -- a token of the set
  One : (role set : ℕ) → Rule
  -- one part, and then another
  Then : Rule → Rule → Rule
  Or : (set : ℕ) → Rule → Rule → Rule
  -- any number of parts
  Many : (set : ℕ) → Rule → Rule

-- a token with its role
pub record Part : Type 0 where
  pub role : ℕ
  pub kind : ℕ

abbrev pub kinds_of : List Part → List ℕ
kinds_of ps = map (λ (p : Part). p.kind) ps

abbrev pub Repeats : (List Part → List Part → Type 0) → ℕ → List Part → List Part → Type 0
Repeats R zero ps rest = rest ≡ ps
Repeats R (suc n) ps rest = (mid : List Part) × R ps mid × Repeats R n mid rest

-- The parts of ps up to rest are a text of the rule.
abbrev pub Spans : Rule → List Part → List Part → Type 0
Spans Nothing ps rest = rest ≡ ps
Spans (One role set) ps rest = (p : Part) × (ps ≡ p ∷ rest) × (p.role ≡ role) × (has set p.kind ≡ true)
Spans (Then a b) ps rest = (mid : List Part) × Spans a ps mid × Spans b mid rest
Spans (Or set a b) ps rest = Spans a ps rest ⊎ Spans b ps rest
Spans (Many set a) ps rest = (n : ℕ) × Repeats (Spans a) n ps rest

-- The parts are the front of a text: a front of the first part, or the first part and a front of the rest.
abbrev pub Reaches : Rule → List Part → Type 0
Reaches Nothing ps = ps ≡ []
Reaches (One role set) ps = (ps ≡ []) ⊎ Spans (One role set) ps []
Reaches (Then a b) ps = Reaches a ps ⊎ ((mid : List Part) × Spans a ps mid × Reaches b mid)
Reaches (Or set a b) ps = Reaches a ps ⊎ Reaches b ps
Reaches (Many set a) ps = (n : ℕ) × (mid : List Part) × Repeats (Spans a) n ps mid × ((mid ≡ []) ⊎ Reaches a mid)

-- the tokens are a text of the rule, with these roles
pub record Means (r : Rule) (ts : List ℕ) (ps : List Part) : Type 0 where
  pub kinds : kinds_of ps ≡ ts
  pub text : Spans r ps []

-- these parts stand at the front of the tokens, and are the front of a text
pub record Opens (r : Rule) (ts : List ℕ) (ps : List Part) : Type 0 where
  pub rest : List ℕ
  pub kinds : kinds_of ps ++ rest ≡ ts
  pub front : Reaches r ps

-- The tokens are no text of the rule, and these parts are the longest front: each other one is a front of it.
pub record Stops (r : Rule) (ts : List ℕ) (ps : List Part) : Type 0 where
  pub opens : Opens r ts ps
  pub longest : (qs : List Part) → Opens r ts qs → (xs : List Part) × (ps ≡ qs ++ xs)
  pub none : (qs : List Part) → Means r ts qs → ⊥
