-- Which tokens are a text of a grammar, and where the fault stands in those that are none.
use Rattle.std.specs.Prelude.{◌≡◌, ◌≢◌, ◌≤◌, ◌↔◌, ℕ, List, [], length}
use Rattle.nd_model.specs.Grammar.Grammar.{Stop, Gram, Spans, Reaches, Opens}

-- the tokens are a text of the grammar, with this meaning
abbrev pub Means : {T C : Type 0} → (List T → ℕ) → Gram T C → List T → C → Type 0
Means kind g ts c = Spans kind g ts [] c

-- No front of a text is longer than what stands before rest.
pub record IsLongest {T C : Type 0} (kind : List T → ℕ) (g : Gram T C) (ts rest : List T) : Type 0 where
  pub front : Reaches kind g ts rest
  pub longest : (other : List T) → Reaches kind g ts other → length rest ≤ length other

-- The tokens are no text of the grammar, and the fault stands behind the longest front.
pub record HasFault {T C : Type 0} (kind : List T → ℕ) (g : Gram T C) (ts : List T) (s : Stop) : Type 0 where
  pub rest : List T
  pub at : IsLongest kind g ts rest
  pub left : length rest ≡ s.left
  -- why the next token is refused, where a reason is given
  pub why : (w : ℕ) → w ≢ 0 → (s.why ≡ w) ↔ Opens kind g ts rest w
  pub none : (c : C) → Means kind g ts c → ⊥

-- What the first grammar has of texts, meanings and fronts, the second has.
pub record IsBelow {T C : Type 0} (kind : List T → ℕ) (g h : Gram T C) : Type 0 where
  pub spans : (ts rest : List T) (c : C) → Spans kind g ts rest c → Spans kind h ts rest c
  pub reaches : (ts rest : List T) → Reaches kind g ts rest → Reaches kind h ts rest
  pub opens : (ts rest : List T) (w : ℕ) → Opens kind g ts rest w → Opens kind h ts rest w
