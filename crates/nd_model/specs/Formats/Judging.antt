-- What tokens come to, where each text of a rule, and each front with the fault behind it, comes to something.
use Rattle.std.specs.Prelude.{◌≡◌, ℕ, Bool, true, false, List}
use Rattle.nd_model.specs.Formats.Rules.{Rule, Part, Means, Stops}
use Rattle.nd_model.specs.Formats.RuleReading.{reading}

-- the parts are all of the tokens, or the longest front
abbrev pub IsReadAs : Rule → List ℕ → List Part → Bool → Type 0
IsReadAs r ts ps true = Means r ts ps
IsReadAs r ts ps false = Stops r ts ps

-- The tokens come to x by their parts.
pub record ComesTo {X : Type 0} (r : Rule) (ts : List ℕ) (judge : List Part → Bool → X) (x : X) : Type 0 where
  pub parts : List Part
  pub whole : Bool
  pub read : IsReadAs r ts parts whole
  pub is : judge parts whole ≡ x

-- the same, computed
abbrev pub judged : {X : Type 0} → Rule → List ℕ → (List Part → Bool → X) → X
judged r ts judge = let x = reading r ts in judge x.parts x.whole
