-- Reading by rules with one token of lookahead, and the test that a rule is fit for it.
use Rattle.std.specs.Prelude.{◌≡◌, ℕ, Bool, true, false, List, [], ◌∷◌, if◌then◌else◌}
use Rattle.nd_model.specs.Grammar.Predict.{Look, look_then, look_or, look_many, next_in}
use Rattle.nd_model.specs.Formats.Rules.{Rule, Nothing, One, Then, Or, Many, Part, Means, Stops}

abbrev pub look : Rule → Look
look Nothing = record { first = 0; ext = 0; empty = true; fits = true }
look (One role set) = record { first = set; ext = 0; empty = false; fits = true }
look (Then a b) = look_then (look a) (look b)
look (Or set a b) = look_or set (look a) (look b)
look (Many set a) = look_many set (look a)

abbrev pub head : List ℕ → ℕ
head [] = 0
head (t ∷ ts) = t

-- whether the next token is in the set
abbrev pub stands : ℕ → List ℕ → Bool
stands set ts = next_in head set ts

-- What the next token is: of this role, with these rules behind it; or none of the rules takes it; or they are all read.
pub data Step : Type 0 where
  Taken : (role : ℕ) → List Rule → Step
  Refused : Step
  Ended : Step

-- by the rule and the rules behind it, where `skipped` is what it is if the rule takes no token
abbrev pub step_by : Rule → List ℕ → List Rule → Step → Step
step_by Nothing ts k skipped = skipped
step_by (One role set) ts k skipped = if stands set ts then Taken role k else Refused
step_by (Then a b) ts k skipped = step_by a ts (b ∷ k) (step_by b ts k skipped)
step_by (Or set a b) ts k skipped = if stands set ts then step_by a ts k skipped else step_by b ts k skipped
step_by (Many set a) ts k skipped = if stands set ts then step_by a ts (Many set a ∷ k) Refused else skipped

abbrev pub step : List Rule → List ℕ → Step
step [] ts = Ended
step (r ∷ k) ts = step_by r ts k (step k ts)

-- the parts that were read, and whether they are a whole text
pub record Reading : Type 0 where
  pub parts : List Part
  pub whole : Bool

abbrev pub is_ended : Step → Bool
is_ended Ended = true
is_ended _ = false

abbrev pub go_on : Step → ℕ → (List Rule → Reading) → Reading
go_on (Taken role k) t f = let r = f k in record { parts = record { role = role; kind = t } ∷ r.parts; whole = r.whole }
go_on _ t f = record { parts = []; whole = false }

-- the reading of all tokens by the rules, one after another
abbrev pub run : List Rule → List ℕ → Reading
run k [] = record { parts = []; whole = is_ended (step k []) }
run k (t ∷ ts) = go_on (step k (t ∷ ts)) t (λ k. run k ts)

-- what the tokens are by the rule
unfoldable pub reading : Rule → List ℕ → Reading
reading r ts = run (r ∷ []) ts

-- ---- the laws

-- a reading is right, and there is no other
pub record IsExact (r : Rule) (ts : List ℕ) : Type 0 where
  pub means : (reading r ts).whole ≡ true → Means r ts (reading r ts).parts
  pub stops : (reading r ts).whole ≡ false → Stops r ts (reading r ts).parts
  pub one_meaning : (ps : List Part) → Means r ts ps → reading r ts ≡ record { parts = ps; whole = true }
  pub one_fault : (ps : List Part) → Stops r ts ps → reading r ts ≡ record { parts = ps; whole = false }

abbrev pub ReadingIsExact : Type 0
ReadingIsExact = (r : Rule) → (look r).fits ≡ true → (ts : List ℕ) → IsExact r ts
